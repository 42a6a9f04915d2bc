-- A text of all kinds of parts and all places of USES, and the model that it describes.
use Rattle.std.proofs.Common.{◌≡◌, ◌∙◌, sym, ℕ, List, ◌++◌}
use Rattle.std.specs.Prelude.{◌≢◌, codes}
use Rattle.vc_model_lines.specs.Classified.{lines_of}
use Rattle.vc_model_drafts.specs.Models.{model_of}
use Rattle.vc_model_drafts.specs.Seen.{SeenModel}

-- the blocks and nets: P_DRY is dependency 0, S_LARGE 1, R_FLOW 2, C_FLOW 3, C_NONE 4, S_ANY 5, R_SIZE 6; IDLE is net 0
abbrev blocks : List ℕ
blocks =
    codes "* a pump with its drive\n"
    ++ codes "model Pump VERSION 12\n"
    ++ codes "\n"
    ++ codes "PRECONDITION P_DRY\n"
    ++ codes "SPECIFIED FLOW\n"
    ++ codes "END\n"
    ++ codes "SELECTION S_LARGE\n"
    ++ codes "SIZE = 'L'\n"
    ++ codes "END\n"
    ++ codes "PROCEDURE R_FLOW\n"
    ++ codes "$SELF.FLOW = 5\n"
    ++ codes "END\n"
    ++ codes "CONSTRAINT C_FLOW\n"
    ++ codes "OBJECTS: ?P IS_A (300) PUMPS.\n"
    ++ codes "RESTRICTIONS: ?P.FLOW <= 5.\n"
    ++ codes "END\n"
    ++ codes "CONSTRAINT C_NONE\n"
    ++ codes "OBJECTS: ?P IS_A (300) PUMPS.\n"
    ++ codes "RESTRICTIONS: FALSE.\n"
    ++ codes "END\n"
    ++ codes "NET IDLE\n"
    ++ codes "NET MAIN\n"
    ++ codes "USES C_NONE\n"
    ++ codes "USES C_FLOW\n"
    ++ codes "SELECTION S_ANY\n"
    ++ codes "SPECIFIED SIZE\n"
    ++ codes "  AND SPECIFIED FLOW\n"
    ++ codes "END\n"
    ++ codes "PROCEDURE R_SIZE\n"
    ++ codes "$SELF.SIZE = 'L'\n"
    ++ codes "END\n"

-- from line 32 on: SIZE, OPTION, FLOW and WEIGHT are characteristics 0 to 3
abbrev characteristics : List ℕ
characteristics =
    codes "CHAR SIZE 2 RESTRICTABLE\n"
    ++ codes "USES R_FLOW\n"
    ++ codes "USES S_LARGE\n"
    ++ codes "* still for the characteristic\n"
    ++ codes "USES P_DRY\n"
    ++ codes "VALUE 'S'\n"
    ++ codes "VALUE 'L'\n"
    ++ codes "USES R_SIZE\n"
    ++ codes "\n"
    ++ codes "USES P_DRY\n"
    ++ codes "VALUE 'XL'\n"
    ++ codes "CHAR OPTION 3 MULTIPLE REQUIRED\n"
    ++ codes "VALUE 'XL'\n"
    ++ codes "USES P_DRY\n"
    ++ codes "VALUE 'A'\n"
    ++ codes "NUM FLOW 1 RESTRICTABLE UNIT m3/h\n"
    ++ codes "USES P_DRY\n"
    ++ codes "VALUE 0\n"
    ++ codes "USES R_FLOW\n"
    ++ codes "VALUE 2.5 .. 100\n"
    ++ codes "USES P_DRY\n"
    ++ codes "NUM WEIGHT 0 REQUIRED\n"
    ++ codes "VALUE -1 .. 9\n"

-- from line 55 on
abbrev classes : List ℕ
classes =
    codes "CLASS DRIVES\n"
    ++ codes "HAS OPTION\n"
    ++ codes "CLASS PUMPS\n"
    ++ codes "HAS FLOW\n"
    ++ codes "HAS SIZE\n"
    ++ codes "HAS WEIGHT\n"
    ++ codes "TABLE SF FILE Sf.csv\n"
    ++ codes "COLUMN FLOW\n"
    ++ codes "COLUMN SIZE KEY\n"
    ++ codes "TABLE W FILE w.csv\n"
    ++ codes "COLUMN WEIGHT\n"

-- from line 66 on: DRIVE, PUMP-1 and SPARE are objects 0 to 2
abbrev objects : List ℕ
objects =
    codes "OBJECT Drive CLASS DRIVES\n"
    ++ codes "USES R_FLOW\n"
    ++ codes "LINE 0010 SEAL PC : 1\n"
    ++ codes "OBJECT PUMP-1 CLASS PUMPS\n"
    ++ codes "USES R_SIZE\n"
    ++ codes "USES MAIN\n"
    ++ codes "USES R_FLOW\n"
    ++ codes "USES IDLE\n"
    ++ codes "LINE 0010 HOUSING PC : 1\n"
    ++ codes "LINE 0020 DRIVE PC : 2 + FLOW\n"
    ++ codes "USES S_ANY\n"
    ++ codes "* still for the line\n"
    ++ codes "USES S_LARGE\n"
    ++ codes "OPERATION 0005 ASSY MIN : FLOW\n"
    ++ codes "USES S_LARGE\n"
    ++ codes "LINE 0100 SEAL KG : 3\n"
    ++ codes "OPERATION 0010 TEST H : 15\n"
    ++ codes "OBJECT SPARE CLASS DRIVES\n"
    ++ codes "ROOT PUMP-1\n"

abbrev pub model : SeenModel
model = model_of (lines_of (blocks ++ characteristics ++ classes ++ objects))

-- what is this isn't that
pub differs : {X : Type 0} {a b c : X} → a ≡ b → b ≢ c → a ≢ c
differs is other e = other (sym is ∙ e)
