-- Files that are told and a name come to one thing alone: one stop that tells more than want of memory, or one plan.
use Rattle.std.proofs.Common.{◌≡◌, ◌≢◌, ℕ, ◌<◌, ◌≤◌, nat_lt, Bool, true, false, List, [], ◌∷◌, length}
use Rattle.std.proofs.Common.{refl, sym, ap, subst, ◌∙◌, arith, Option, None, Some, Result, Ok, Err, slice_get}
use Rattle.std.specs.Option.{IsSomeAnd}
use Rattle.std.proofs.lemmas.Bool.Decides.{nat_tests}
use Rattle.std.proofs.lemmas.Option.{none-some, same_Some}
use Rattle.vc_outside.specs.Faults.{Raised}
use Rattle.vc_outside.specs.Shelves.{Files, content_of, Lacks, Exceeds}
use Rattle.vc_outside.specs.declared.file.FileFault.{FileFault}
use Rattle.vc_outside.specs.declared.file.FileFault.TheVariants as faults
use Rattle.vc_outside.specs.declared.file.TheConstants.{FILE_LIMIT}
use Rattle.vc_model.specs.Spelled.{Spells, IsFault}
use Rattle.vc_model.proofs.ReadingLaws.{one_fault, spells_none}
use Rattle.vc_model_drafts.specs.Seen.{SeenModel, seen_model}
use Rattle.vc_model_faults.specs.declared.fault.ModelFaultKind.{ModelFaultKind}
use Rattle.vc_model_parts.specs.Headers.{columns_of}
use Rattle.vc_model_parts.specs.declared.parts.Model.{Model}
use Rattle.vc_model_parts.specs.declared.parts.Table.{Table}
use Rattle.vc_table.specs.Records.{records_of}
use Rattle.vc_table.specs.Tables.{rows_of}
use Rattle.vc_table.specs.declared.table.Row.{Row}
use Rattle.vc_table.specs.declared.table.TableFault.{TableFault}
use Rattle.vc_table.specs.declared.table.VariantTable.{VariantTable}
use Rattle.vc_plan.specs.Bounds.{cell_bound}
use Rattle.vc_plan.specs.Domains.{atom_count}
use Rattle.vc_plan.specs.declared.plans.Plan.{Plan}
use Rattle.vc_compile_plan.specs.Layouts.{Layout, layout_of}
use Rattle.vc_compile_plan.specs.Numbering.{drafts_of}
use Rattle.vc_compile_plan.specs.PlanOf.{IsPlanOf}
use Rattle.vc_compile_plan.specs.Refusals.{compile_fault}
use Rattle.vc_compile_plan.specs.Trees.{Spot}
use Rattle.vc_compile_plan.specs.declared.fault.CompileFault.{CompileFault}
use Rattle.vc_compile_plan.specs.declared.fault.CompileFault.TheVariants as compile
use Rattle.vc_compile.proofs.SizeLaws.{counts_same}
use Rattle.vc_compile_same.proofs.PlanLaws.{same_faults, same_plans}
use Rattle.vc_app_models.specs.Loading.{AreTablesIn, IsModelIn, IsNoTableIn, IsPlanIn, IsRefusedIn, IsStop, IsTableIn}
use Rattle.vc_app_models.specs.Loading.{IsTablesStop, IsUnread, IsWholeIn}
use Rattle.vc_app_models.specs.declared.stop.ModelStop.{ModelStop}
use Rattle.vc_app_models.specs.declared.stop.ModelStop.TheVariants as stops

-- what a file comes to where files are told: it is missing, too large, or there
pub data Held : Type 0 where
  missing : Held
  large : Held
  there : List ℕ → Held

abbrev held_if : Bool → List ℕ → Held
held_if true content = large
held_if false content = there content

abbrev held_of : Option (List ℕ) → Held
held_of None = missing
held_of (Some content) = held_if (nat_lt FILE_LIMIT (length content)) content

abbrev pub held : Files → List ℕ → Held
held files name = held_of (content_of files name)

within : (n : ℕ) → n ≤ FILE_LIMIT → nat_lt FILE_LIMIT n ≡ false
within n small = grind (arith, nat_tests)

above : (n : ℕ) → FILE_LIMIT < n → nat_lt FILE_LIMIT n ≡ true
above n many = grind (arith, nat_tests)

pub is_held : (files : Files) (name text : List ℕ) → content_of files name ≡ Some text → length text ≤ FILE_LIMIT
    → held files name ≡ there text
is_held files name text has small = ap held_of has ∙ ap (λ b. held_if b text) (within (length text) small)

is_missing : (files : Files) (name : List ℕ) → Lacks (Some files) name → held files name ≡ missing
is_missing files name lacks = ap held_of lacks

is_large : (files : Files) (name : List ℕ) → Exceeds FILE_LIMIT (Some files) name → held files name ≡ large
is_large files name exceeds = by (content_of files name) exceeds
  where
    by : (o : Option (List ℕ)) → IsSomeAnd o (λ content. FILE_LIMIT < length content) → held_of o ≡ large
    by None h = absurd h
    by (Some content) h = ap (λ b. held_if b content) (above (length content) h)

-- a fault of a file that isn't want of memory
abbrev pub IsToldFault : FileFault → Type 0
IsToldFault faults.Missing = Unit {0}
IsToldFault faults.Failed = Unit {0}
IsToldFault faults.TooLarge = Unit {0}
IsToldFault faults.OutOfMemory = ⊥

-- a fault that files decide is what the file comes to
abbrev pub IsHeldFault : Held → FileFault → Type 0
IsHeldFault missing fault = fault ≡ faults.Missing
IsHeldFault large fault = fault ≡ faults.TooLarge
IsHeldFault (there text) fault = ⊥

pub unread_is : (files : Files) (before after : ℕ) (name : List ℕ) (fault : FileFault) → ¬ Raised before after
    → IsToldFault fault → IsUnread (Some files) before after name fault → IsHeldFault (held files name) fault
unread_is files before after name faults.Missing quiet told unread =
    subst (λ h. IsHeldFault h faults.Missing) (sym (is_missing files name unread)) refl
unread_is files before after name faults.Failed quiet told unread = absurd (quiet unread)
unread_is files before after name faults.TooLarge quiet told unread =
    subst (λ h. IsHeldFault h faults.TooLarge) (sym (is_large files name unread)) refl
unread_is files before after name faults.OutOfMemory quiet told unread = absurd told

-- one fault at most, and none of a file that is there
pub one_held_fault : (h : Held) (fault other : FileFault) → IsHeldFault h fault → IsHeldFault h other → fault ≡ other
one_held_fault missing fault other p q = p ∙ sym q
one_held_fault large fault other p q = p ∙ sym q
one_held_fault (there text) fault other p q = absurd p

-- what a table comes to by its file: not read, without rows for a fault, or with rows
data Came : Type 0 where
  gone : FileFault → Came
  bad : TableFault → Came
  good : List Row → Came

abbrev of_rows : Result (List Row) TableFault → Came
of_rows (Ok rows) = good rows
of_rows (Err fault) = bad fault

abbrev of_held : SeenModel → Table → Held → Came
of_held seen declared missing = gone faults.Missing
of_held seen declared large = gone faults.TooLarge
of_held seen declared (there text) =
    of_rows (rows_of (columns_of seen.texts seen.characteristics declared.columns) (records_of text))

abbrev came : Files → SeenModel → Table → Came
came files seen declared = of_held seen declared (held files declared.file)

good_came : (files : Files) (model : Model) (declared : Table) (table : VariantTable)
    → IsTableIn (Some files) model declared table → came files (seen_model model) declared ≡ good table.rows
good_came files model declared table is =
    ap (of_held (seen_model model) declared) (is_held files declared.file is.text is.held is.small) ∙ ap of_rows is.read

bad_came : (files : Files) (model : Model) (declared : Table) (fault : TableFault)
    → IsNoTableIn (Some files) model declared fault → came files (seen_model model) declared ≡ bad fault
bad_came files model declared fault is =
    ap (of_held (seen_model model) declared) (is_held files declared.file is.text is.held is.small) ∙ ap of_rows is.read

gone_came : (files : Files) (seen : SeenModel) (declared : Table) (fault : FileFault)
    → IsHeldFault (held files declared.file) fault → came files seen declared ≡ gone fault
gone_came files seen declared fault is = by (held files declared.file) is
  where
    by : (h : Held) → IsHeldFault h fault → of_held seen declared h ≡ gone fault
    by missing e = ap gone (sym e)
    by large e = ap gone (sym e)
    by (there text) e = absurd e

-- what all tables come to, in the order of the model: the first that isn't there stops
data Walked : Type 0 where
  all : List VariantTable → Walked
  stopped : ModelStop → Walked

abbrev with_rows : List Row → Walked → Walked
with_rows rows (all tables) = all (record { rows = rows } ∷ tables)
with_rows rows (stopped stop) = stopped stop

abbrev step : Table → Came → Walked → Walked
step declared (gone fault) rest = stopped (stops.TableUnread declared.file fault)
step declared (bad fault) rest = stopped (stops.TableRefused declared.name fault)
step declared (good rows) rest = with_rows rows rest

abbrev walked : Files → SeenModel → List Table → Walked
walked files seen [] = all []
walked files seen (declared ∷ more) = step declared (came files seen declared) (walked files seen more)

whole_walked : (files : Files) (model : Model) (declared : List Table) (tables : List VariantTable)
    → AreTablesIn (Some files) model declared tables → length tables ≡ length declared
    → walked files (seen_model model) declared ≡ all tables
whole_walked files model [] [] are count = refl
whole_walked files model [] (table ∷ tables) are count = absurd are
whole_walked files model (first ∷ declared) [] are count = absurd (omega arith)
whole_walked files model (first ∷ declared) (table ∷ tables) are count =
    ap (λ c. step first c (walked files (seen_model model) declared)) (good_came files model first table are.0)
    ∙ ap (with_rows table.rows) (whole_walked files model declared tables are.1 (omega arith))

stop_walked : (files : Files) (model : Model) (declared : List Table) (tables : List VariantTable) (next : Table)
    (stop : ModelStop) → AreTablesIn (Some files) model declared tables
    → slice_get declared (length tables) ≡ Some next
    → ((rest : Walked) → step next (came files (seen_model model) next) rest ≡ stopped stop)
    → walked files (seen_model model) declared ≡ stopped stop
stop_walked files model [] [] next stop are is stops_there = absurd (none-some next is)
stop_walked files model [] (table ∷ tables) next stop are is stops_there = absurd are
stop_walked files model (first ∷ declared) [] next stop are is stops_there =
    subst (λ d. step d (came files (seen_model model) d) (walked files (seen_model model) declared) ≡ stopped stop)
    (sym (same_Some first next is))
    (stops_there (walked files (seen_model model) declared))
stop_walked files model (first ∷ declared) (table ∷ tables) next stop are is stops_there =
    ap (λ c. step first c (walked files (seen_model model) declared)) (good_came files model first table are.0)
    ∙ ap (with_rows table.rows) (stop_walked files model declared tables next stop are.1 is stops_there)

-- a stop that isn't want of memory
abbrev pub IsTold : ModelStop → Type 0
IsTold (stops.Unread fault) = IsToldFault fault
IsTold (stops.TextRefused kind line) = Unit {0}
IsTold (stops.TableUnread file fault) = IsToldFault fault
IsTold (stops.TableRefused table fault) = Unit {0}
IsTold (stops.Uncompiled fault) = fault ≢ compile.OutOfMemory
IsTold stops.OutOfMemory = ⊥

tables_walked : (files : Files) (before after : ℕ) (model : Model) (stop : ModelStop) → ¬ Raised before after
    → IsTold stop → IsTablesStop (Some files) before after model stop
    → walked files (seen_model model) model.tables ≡ stopped stop
tables_walked files before after model (stops.Unread fault) quiet told h = absurd h
tables_walked files before after model (stops.TextRefused kind line) quiet told h = absurd h
tables_walked files before after model (stops.TableUnread file fault) quiet told h =
    stop_walked files model model.tables h.1.tables h.0 (stops.TableUnread file fault) h.1.before h.1.declared_is
    (λ rest. ap (λ c. step h.0 c rest)
    (gone_came files (seen_model model) h.0 fault (unread_is files before after h.0.file fault quiet told h.3))
    ∙ ap (λ f. stopped (stops.TableUnread f fault)) (sym h.2))
tables_walked files before after model (stops.TableRefused table fault) quiet told h =
    stop_walked files model model.tables h.1.tables h.0 (stops.TableRefused table fault) h.1.before h.1.declared_is
    (λ rest. ap (λ c. step h.0 c rest) (bad_came files model h.0 fault h.4)
    ∙ ap (λ n. stopped (stops.TableRefused n fault)) (sym h.2))
tables_walked files before after model (stops.Uncompiled fault) quiet told h = absurd h
tables_walked files before after model stops.OutOfMemory quiet told h = absurd told

-- what a model's text comes to
data Verdict : Type 0 where
  unread : FileFault → Verdict
  refused : ModelFaultKind → ℕ → Verdict
  spelled : SeenModel → Verdict

abbrev IsVerdictOf : List ℕ → Verdict → Type 0
IsVerdictOf text (unread fault) = ⊥
IsVerdictOf text (refused kind line) = IsFault text kind line
IsVerdictOf text (spelled seen) = Spells text seen

abbrev IsVerdictBy : Held → Verdict → Type 0
IsVerdictBy missing verdict = verdict ≡ unread faults.Missing
IsVerdictBy large verdict = verdict ≡ unread faults.TooLarge
IsVerdictBy (there text) verdict = IsVerdictOf text verdict

one_verdict_of : (text : List ℕ) (v w : Verdict) → IsVerdictOf text v → IsVerdictOf text w → v ≡ w
one_verdict_of text (unread fault) w p q = absurd p
one_verdict_of text (refused kind line) (unread fault) p q = absurd q
one_verdict_of text (refused kind line) (refused other count) p q =
    let same = one_fault text kind other line count p q in λ i. refused (same.0 i) (same.1 i)
one_verdict_of text (refused kind line) (spelled seen) p q = absurd (spells_none text seen kind line q p)
one_verdict_of text (spelled seen) (unread fault) p q = absurd q
one_verdict_of text (spelled seen) (refused kind line) p q = absurd (spells_none text seen kind line p q)
one_verdict_of text (spelled seen) (spelled other) p q = ap spelled (p.model_is ∙ sym q.model_is)

one_verdict : (h : Held) (v w : Verdict) → IsVerdictBy h v → IsVerdictBy h w → v ≡ w
one_verdict missing v w p q = p ∙ sym q
one_verdict large v w p q = p ∙ sym q
one_verdict (there text) v w p q = one_verdict_of text v w p q

-- a text that spells a model, and a stop behind what its tables come to
spelled_in : (files : Files) (name : List ℕ) (model : Model) → IsModelIn (Some files) name model
    → IsVerdictBy (held files name) (spelled (seen_model model))
spelled_in files name model is =
    subst (λ h. IsVerdictBy h (spelled (seen_model model))) (sym (is_held files name is.text is.held is.small))
    is.spelled

record IsFaultOf (seen : SeenModel) (tables : List VariantTable) (stop : ModelStop) : Type 0 where
  model : Model
  fault : CompileFault
  is_seen : seen_model model ≡ seen
  tells : stop ≡ stops.Uncompiled fault
  faults : (p : Spot) → compile_fault p model tables ≡ Some fault

abbrev Behind : SeenModel → Walked → ModelStop → Type 0
Behind seen (all tables) stop = IsFaultOf seen tables stop
Behind seen (stopped other) stop = stop ≡ other

abbrev Follows : Files → Verdict → ModelStop → Type 0
Follows files (unread fault) stop = stop ≡ stops.Unread fault
Follows files (refused kind line) stop = stop ≡ stops.TextRefused kind line
Follows files (spelled seen) stop = Behind seen (walked files seen seen.tables) stop

one_behind : Spot → (seen : SeenModel) (w : Walked) (a b : ModelStop) → Behind seen w a → Behind seen w b → a ≡ b
one_behind p seen (all tables) a b x y =
    let same : compile_fault p x.model tables ≡ compile_fault p y.model tables
    = same_faults x.model y.model tables (x.is_seen ∙ sym y.is_seen) p in
    let fault : Some x.fault ≡ Some y.fault = sym (x.faults p) ∙ same ∙ y.faults p in
    x.tells ∙ ap stops.Uncompiled (same_Some x.fault y.fault fault) ∙ sym y.tells
one_behind p seen (stopped other) a b x y = x ∙ sym y

one_follows : Spot → (files : Files) (v : Verdict) (a b : ModelStop) → Follows files v a → Follows files v b → a ≡ b
one_follows p files (unread fault) a b x y = x ∙ sym y
one_follows p files (refused kind line) a b x y = x ∙ sym y
one_follows p files (spelled seen) a b x y = one_behind p seen (walked files seen seen.tables) a b x y

-- a stop by what comes before it
record IsReached (files : Files) (name : List ℕ) (stop : ModelStop) : Type 0 where
  verdict : Verdict
  is : IsVerdictBy (held files name) verdict
  follows : Follows files verdict stop

unread_reached : (files : Files) (name : List ℕ) (fault : FileFault) → IsHeldFault (held files name) fault
    → IsReached files name (stops.Unread fault)
unread_reached files name fault is = record { verdict = unread fault; is = by (held files name) is; follows = refl }
  where
    by : (h : Held) → IsHeldFault h fault → IsVerdictBy h (unread fault)
    by missing e = ap unread e
    by large e = ap unread e
    by (there text) e = absurd e

refused_reached : (files : Files) (name : List ℕ) (kind : ModelFaultKind) (line : ℕ)
    → IsRefusedIn (Some files) name kind line → IsReached files name (stops.TextRefused kind line)
refused_reached files name kind line is = record {
  verdict = refused kind line;
  is = subst (λ h. IsVerdictBy h (refused kind line)) (sym (is_held files name is.text is.held is.small)) is.fault;
  follows = refl;
}

tables_reached : (files : Files) (before after : ℕ) (name : List ℕ) (model : Model) (stop : ModelStop)
    → ¬ Raised before after → IsTold stop → IsModelIn (Some files) name model
    → IsTablesStop (Some files) before after model stop → IsReached files name stop
tables_reached files before after name model stop quiet told is h = record {
  verdict = spelled (seen_model model);
  is = spelled_in files name model is;
  follows = subst (λ w. Behind (seen_model model) w stop)
      (sym (tables_walked files before after model stop quiet told h)) refl;
}

fault_reached : (files : Files) (name : List ℕ) (model : Model) (tables : List VariantTable) (fault : CompileFault)
    → IsWholeIn (Some files) name model tables → ((p : Spot) → compile_fault p model tables ≡ Some fault)
    → IsReached files name (stops.Uncompiled fault)
fault_reached files name model tables fault whole told = record {
  verdict = spelled (seen_model model);
  is = spelled_in files name model whole.model_is;
  follows = subst (λ w. Behind (seen_model model) w (stops.Uncompiled fault))
      (sym (whole_walked files model model.tables tables whole.tables_are whole.whole))
      (record { model = model; fault = fault; is_seen = refl; tells = refl; faults = told });
}

reached : (files : Files) (before after : ℕ) (name : List ℕ) (stop : ModelStop) → ¬ Raised before after
    → IsTold stop → IsStop (Some files) before after name stop → IsReached files name stop
reached files before after name (stops.Unread fault) quiet told h =
    unread_reached files name fault (unread_is files before after name fault quiet told h)
reached files before after name (stops.TextRefused kind line) quiet told h = refused_reached files name kind line h
reached files before after name (stops.TableUnread file fault) quiet told h =
    tables_reached files before after name h.0 (stops.TableUnread file fault) quiet told h.1 h.2
reached files before after name (stops.TableRefused table fault) quiet told h =
    tables_reached files before after name h.0 (stops.TableRefused table fault) quiet told h.1 h.2
reached files before after name (stops.Uncompiled compile.TooDeep) quiet told h =
    fault_reached files name h.model h.tables compile.TooDeep h.whole h.refused
reached files before after name (stops.Uncompiled compile.TooManySlots) quiet told h =
    fault_reached files name h.model h.tables compile.TooManySlots h.whole h.refused
reached files before after name (stops.Uncompiled compile.TooManyRules) quiet told h =
    fault_reached files name h.model h.tables compile.TooManyRules h.whole h.refused
reached files before after name (stops.Uncompiled compile.TooManyAtoms) quiet told h =
    fault_reached files name h.model h.tables compile.TooManyAtoms h.whole h.refused
reached files before after name (stops.Uncompiled compile.TooManyCells) quiet told h =
    fault_reached files name h.model h.tables compile.TooManyCells h.whole h.refused
reached files before after name (stops.Uncompiled (compile.Typing kind line)) quiet told h =
    fault_reached files name h.model h.tables (compile.Typing kind line) h.whole h.refused
reached files before after name (stops.Uncompiled compile.OutOfMemory) quiet told h = absurd (told refl)
reached files before after name stops.OutOfMemory quiet told h = absurd told

-- what stops a model is one
pub one_stop : Spot → (files : Files) (before after : ℕ) (name : List ℕ) (a b : ModelStop) → ¬ Raised before after
    → IsTold a → IsTold b → IsStop (Some files) before after name a → IsStop (Some files) before after name b → a ≡ b
one_stop p files before after name a b quiet told_a told_b stops_a stops_b =
    let x : IsReached files name a = reached files before after name a quiet told_a stops_a in
    let y : IsReached files name b = reached files before after name b quiet told_b stops_b in
    one_follows p files y.verdict a b
    (subst (λ v. Follows files v a) (one_verdict (held files name) x.verdict y.verdict x.is y.is) x.follows) y.follows

-- a model with a plan is stopped by nothing
pub no_stop : Spot → (files : Files) (before after : ℕ) (name : List ℕ) (plan : Plan) (stop : ModelStop)
    → ¬ Raised before after → IsTold stop → IsPlanIn (Some files) name plan
    → IsStop (Some files) before after name stop → ⊥
no_stop p files before after name plan stop quiet told has stops_it =
    let x : IsReached files name stop = reached files before after name stop quiet told stops_it in
    let seen : SeenModel = seen_model has.model in
    let same : x.verdict ≡ spelled seen
    = one_verdict (held files name) x.verdict (spelled seen) x.is
    (spelled_in files name has.model has.whole.model_is) in
    let walk : walked files seen seen.tables ≡ all has.tables
    = whole_walked files has.model has.model.tables has.tables has.whole.tables_are has.whole.whole in
    let faulty : IsFaultOf seen has.tables stop
    = subst (λ w. Behind seen w stop) walk (subst (λ v. Follows files v stop) same x.follows) in
    none-some faulty.fault
    (sym (has.compiled.sound p) ∙ sym (same_faults faulty.model has.model has.tables faulty.is_seen p)
    ∙ faulty.faults p)

-- the model of two plans of one name is one as far as it is seen, and so are their tables
abbrev seen_in : Verdict → SeenModel → SeenModel
seen_in (unread fault) other = other
seen_in (refused kind line) other = other
seen_in (spelled seen) other = seen

abbrev tables_in : Walked → List VariantTable
tables_in (all tables) = tables
tables_in (stopped stop) = []

one_plan : (files : Files) (name : List ℕ) (a b : Plan) (x : IsPlanIn (Some files) name a)
    → IsPlanIn (Some files) name b → IsPlanOf x.model x.tables b
one_plan files name a b x y =
    let verdicts : spelled (seen_model y.model) ≡ spelled (seen_model x.model)
    = one_verdict (held files name) (spelled (seen_model y.model)) (spelled (seen_model x.model))
    (spelled_in files name y.model y.whole.model_is) (spelled_in files name x.model x.whole.model_is) in
    let seen : seen_model y.model ≡ seen_model x.model = ap (λ v. seen_in v (seen_model x.model)) verdicts in
    let walk : walked files (seen_model y.model) (seen_model y.model).tables
    ≡ walked files (seen_model x.model) (seen_model x.model).tables
    = ap (λ s. walked files s s.tables) seen in
    let tables : y.tables ≡ x.tables
    = ap tables_in (sym (whole_walked files y.model y.model.tables y.tables y.whole.tables_are y.whole.whole) ∙ walk
    ∙ whole_walked files x.model x.model.tables x.tables x.whole.tables_are x.whole.whole) in
    same_plans y.model x.model x.tables b seen (subst (λ ts. IsPlanOf y.model ts b) tables y.compiled.its)

-- two plans of one name are equally large
pub record AreAsLarge (a b : Plan) : Type 0 where
  pub slots : length a.slots ≡ length b.slots
  pub variables : length a.vars ≡ length b.vars
  pub rules : length a.rules ≡ length b.rules
  pub atoms : atom_count a ≡ atom_count b
  pub cells : cell_bound a ≡ cell_bound b

pub as_large : (files : Files) (name : List ℕ) (a b : Plan) → IsPlanIn (Some files) name a
    → IsPlanIn (Some files) name b → AreAsLarge a b
as_large files name a b x y =
    let its : IsPlanOf x.model x.tables b = one_plan files name a b x y in
    let layout : Layout = layout_of x.model in
    let counts : (atom_count a ≡ atom_count b) × (cell_bound a ≡ cell_bound b)
    = counts_same layout (drafts_of layout) x.tables a b x.compiled.its its in
    record {
      slots = ap length (x.compiled.its.slots ∙ sym its.slots);
      variables = ap length (x.compiled.its.vars ∙ sym its.vars);
      rules = ap length (x.compiled.its.rules ∙ sym its.rules);
      atoms = counts.0;
      cells = counts.1;
    }
