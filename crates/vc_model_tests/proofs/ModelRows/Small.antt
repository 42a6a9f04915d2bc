-- Models of a few lines each.
use Rattle.std.proofs.Common.{◌≡◌, ℕ, List, [], ◌∷◌, ◌++◌, refl}
use Rattle.std.specs.Prelude.{◌≢◌, codes}
use Rattle.vc_model_lines.specs.Classified.{lines_of}
use Rattle.vc_model_scope.specs.Scope.{scope_of}
use Rattle.vc_model_drafts.specs.Models.{model_of}
use Rattle.vc_model_tests.proofs.ModelRows.Pumps.{differs}

-- the least that a text without fault has, with LF, with CR LF, and without an end to its last line
abbrev least : List ℕ
least = codes "MODEL A VERSION 1\nCLASS C\nOBJECT M CLASS C\nROOT M\n"

least_model : model_of (lines_of least)
    ≡ record {
      name = codes "A";
      version = 1;
      characteristics = [];
      texts = [];
      classes = record { name = codes "C"; members = [] } ∷ [];
      tables = [];
      dependencies = [];
      nets = [];
      objects = record { material = codes "M"; class = 0; nets = []; procedures = []; bill = []; operations = [] } ∷ [];
      root = 0;
    }
unfolding scope_of
least_model = refl

other_ends : model_of (lines_of (codes "MODEL A VERSION 1\r\nCLASS C\r\nOBJECT M CLASS C\r\nROOT M"))
    ≡ model_of (lines_of least)
unfolding scope_of
other_ends = refl

-- of two roots and two heads, which a text without fault hasn't, the first is told
abbrev two : List ℕ
two =
    codes "MODEL A VERSION 1\nMODEL B VERSION 2\nCLASS C\nOBJECT M CLASS C\nOBJECT N CLASS C\n"
    ++ codes "OBJECT O CLASS C\nOBJECT P CLASS C\nROOT N\nROOT P\n"

first_root : (model_of (lines_of two)).root ≡ 1
unfolding scope_of
first_root = refl

last_root : (model_of (lines_of two)).root ≢ 3
last_root = differs first_root (λ e. cc)

-- objects are numbered from the first
from_the_last : (model_of (lines_of two)).root ≢ 2
from_the_last = differs first_root (λ e. cc)

first_name : (model_of (lines_of two)).name ≡ codes "A"
first_name = refl

first_version : (model_of (lines_of two)).version ≡ 1
first_version = refl
