-- Laws of words that ask for a command: which words do, that they name one thing, and that no words are two commands.
use Rattle.std.proofs.Common.{◌≡◌, ℕ, ◌<◌, ◌≤◌, Bool, true, List, [], ◌∷◌, length, get_or, sym, ap, ◌∙◌, arith}
use Rattle.std.proofs.Common.{Option, Some, None, IfSome, IfNone, drop, refl}
use Rattle.std.specs.Prelude.{codes, slice_get, string_bytes}
use Rattle.std.specs.Option.{option_map, option_to_list}
use Rattle.std.specs.Str.{bytes_eq}
use Rattle.std.specs.declared.string.String.{String}
use Rattle.std.specs.declared.alloc.Global.{Global}
use Rattle.std.proofs.lemmas.Slice.Eq.{bytes_eq-Decides}
use Rattle.vc_app_gen.specs.Counts.{families_asked}
use Rattle.vc_app_serve.specs.Counts.{links_asked}
use Rattle.vc_app_serve.specs.Serving.{Service}
use Rattle.vc_app_run.specs.Endings.{Words}
use Rattle.vc_app.specs.Asked.{IsGen, IsGenWith, IsNoGen, IsServe, IsServeWith, IsVerify, IsCheck}

-- two words of which the first is `check`
pub check_words : (words : Words) (a b : String Global) (command model : List ℕ) (is_check : Bool)
    → 2 ≤ length words → length words < 3 → a ≡ get_or words 0 a → b ≡ get_or words 1 b
    → command ≡ string_bytes a → model ≡ string_bytes b
    → is_check ≡ bytes_eq command (codes "check") → is_check ≡ true → IsCheck words model
check_words [] a b command model is_check least most p q r s test holds = absurd (omega arith)
check_words (x ∷ []) a b command model is_check least most p q r s test holds = absurd (omega arith)
check_words (x ∷ y ∷ []) a b command model is_check least most p q r s test holds =
    let check : command ≡ codes "check" = (bytes_eq-Decides command (codes "check")).0 (sym test ∙ holds) in
    cc
check_words (x ∷ y ∷ z ∷ more) a b command model is_check least most p q r s test holds = absurd (omega arith)

-- words ask to check one name
pub one_name : (words : Words) (a b : List ℕ) → IsCheck words a → IsCheck words b → a ≡ b
one_name words a b p q =
    let e : codes "check" ∷ (a ∷ []) ≡ codes "check" ∷ (b ∷ []) = sym p ∙ q in ap (λ xs. get_or xs 1 a) e

-- three words of which the first is `verify`
pub verify_words : (words : Words) (a b d : String Global) (command model chain : List ℕ) (is_verify : Bool)
    → 3 ≤ length words → length words < 4 → a ≡ get_or words 0 a → b ≡ get_or words 1 b → d ≡ get_or words 2 d
    → command ≡ string_bytes a → model ≡ string_bytes b → chain ≡ string_bytes d
    → is_verify ≡ bytes_eq command (codes "verify") → is_verify ≡ true → IsVerify words model chain
verify_words [] a b d command model chain is_verify least most p q r s t u test holds = absurd (omega arith)
verify_words (x ∷ []) a b d command model chain is_verify least most p q r s t u test holds = absurd (omega arith)
verify_words (x ∷ y ∷ []) a b d command model chain is_verify least most p q r s t u test holds = absurd (omega arith)
verify_words (x ∷ y ∷ z ∷ []) a b d command model chain is_verify least most p q r s t u test holds =
    let named : command ≡ codes "verify" = (bytes_eq-Decides command (codes "verify")).0 (sym test ∙ holds) in
    cc
verify_words (x ∷ y ∷ z ∷ w ∷ more) a b d command model chain is_verify least most p q r s t u test holds = absurd
    (omega arith)

-- two words of which the first is `gen`
pub gen_words : (words : Words) (a b : String Global) (command number : List ℕ) (is_gen : Bool)
    → 2 ≤ length words → length words < 3 → a ≡ get_or words 0 a → b ≡ get_or words 1 b
    → command ≡ string_bytes a → number ≡ string_bytes b
    → is_gen ≡ bytes_eq command (codes "gen") → is_gen ≡ true → IsGenWith words number
gen_words [] a b command number is_gen least most p q r s test holds = absurd (omega arith)
gen_words (x ∷ []) a b command number is_gen least most p q r s test holds = absurd (omega arith)
gen_words (x ∷ y ∷ []) a b command number is_gen least most p q r s test holds =
    let named : command ≡ codes "gen" = (bytes_eq-Decides command (codes "gen")).0 (sym test ∙ holds) in
    cc
gen_words (x ∷ y ∷ z ∷ more) a b command number is_gen least most p q r s test holds = absurd (omega arith)

-- one word stands behind `gen`
one_number : (words : Words) (a b : List ℕ) → IsGenWith words a → IsGenWith words b → a ≡ b
one_number words a b p q =
    let e : codes "gen" ∷ (a ∷ []) ≡ codes "gen" ∷ (b ∷ []) = sym p ∙ q in ap (λ xs. get_or xs 1 a) e

-- the words ask for as many families as the word behind `gen` does
pub gen_asked : (words : Words) (number : List ℕ) (r : Option ℕ) → IsGenWith words number
    → r ≡ families_asked number → IfSome r (IsGen words)
gen_asked words number None p e = tt
gen_asked words number (Some count) p e = (number, p, sym e)

pub gen_not_asked : (words : Words) (number : List ℕ) (r : Option ℕ) → IsGenWith words number
    → r ≡ families_asked number → IfNone r (IsNoGen words)
gen_not_asked words number (Some count) p e = tt
gen_not_asked words number None p e = λ count asked.
    let same : number ≡ asked.0 = one_number words number asked.0 p asked.1 in
    let none : None ≡ Some count = e ∙ ap families_asked same ∙ asked.2 in
    absurd cc

-- where no word stands behind `gen`, no families are asked for
pub gen_not_there : (words : Words) → ((number : List ℕ) → ¬ IsGenWith words number) → IsNoGen words
gen_not_there words none = λ count asked. none asked.0 asked.1

-- words ask to verify one file by one model
pub one_model : (words : Words) (a b d e : List ℕ) → IsVerify words a d → IsVerify words b e → a ≡ b
one_model words a b d e p q =
    let same : codes "verify" ∷ (a ∷ (d ∷ [])) ≡ codes "verify" ∷ (b ∷ (e ∷ [])) = sym p ∙ q in
    ap (λ xs. get_or xs 1 a) same

pub one_chain : (words : Words) (a b d e : List ℕ) → IsVerify words a d → IsVerify words b e → d ≡ e
one_chain words a b d e p q =
    let same : codes "verify" ∷ (a ∷ (d ∷ [])) ≡ codes "verify" ∷ (b ∷ (e ∷ [])) = sym p ∙ q in
    ap (λ xs. get_or xs 2 d) same

-- words ask for one number of families
pub one_count : (words : Words) (m n : ℕ) → IsGen words m → IsGen words n → m ≡ n
one_count words m n p q =
    let same : p.0 ≡ q.0 = one_number words p.0 q.0 p.1 q.1 in
    let counts : Some m ≡ Some n = sym p.2 ∙ ap families_asked same ∙ q.2 in
    cc

-- no words are two commands
pub check_or_verify : (words : Words) (name model chain : List ℕ) → IsCheck words name → ¬ IsVerify words model chain
check_or_verify words name model chain p q =
    let lengths : 2 ≡ 3 = ap length (sym p ∙ q) in absurd (omega (arith, lengths))

pub check_or_gen : (words : Words) (name : List ℕ) (count : ℕ) → IsCheck words name → ¬ IsGen words count
check_or_gen words name count p q =
    let lengths : 5 ≡ 3 = ap (λ xs. length (get_or xs 0 [])) (sym p ∙ q.1) in absurd (omega (arith, lengths))

pub verify_or_gen : (words : Words) (model chain : List ℕ) (count : ℕ) → IsVerify words model chain
    → ¬ IsGen words count
verify_or_gen words model chain count p q =
    let lengths : 3 ≡ 2 = ap length (sym p ∙ q.1) in absurd (omega (arith, lengths))

-- four words or five, of which the first is `serve`
pub serve_words : (words : Words) (a b d e : String Global) (command model address number : List ℕ) (is_serve : Bool)
    → 4 ≤ length words → length words < 6
    → a ≡ get_or words 0 a → b ≡ get_or words 1 b → d ≡ get_or words 2 d → e ≡ get_or words 3 e
    → command ≡ string_bytes a → model ≡ string_bytes b → address ≡ string_bytes d → number ≡ string_bytes e
    → is_serve ≡ bytes_eq command (codes "serve") → is_serve ≡ true
    → IsServeWith words model address number (option_map string_bytes (slice_get words 4))
serve_words [] a b d e command model address number is least most p q r s t u v w test holds = absurd (omega arith)
serve_words (x ∷ []) a b d e command model address number is least most p q r s t u v w test holds =
    absurd (omega arith)
serve_words (x ∷ y ∷ []) a b d e command model address number is least most p q r s t u v w test holds =
    absurd (omega arith)
serve_words (x ∷ y ∷ z ∷ []) a b d e command model address number is least most p q r s t u v w test holds =
    absurd (omega arith)
serve_words (x ∷ y ∷ z ∷ n ∷ []) a b d e command model address number is least most p q r s t u v w test holds =
    let serve : command ≡ codes "serve" = (bytes_eq-Decides command (codes "serve")).0 (sym test ∙ holds) in
    cc
serve_words (x ∷ y ∷ z ∷ n ∷ k ∷ []) a b d e command model address number is least most p q r s t u v w test holds =
    let serve : command ≡ codes "serve" = (bytes_eq-Decides command (codes "serve")).0 (sym test ∙ holds) in
    cc
serve_words (x ∷ y ∷ z ∷ n ∷ k ∷ l ∷ more) a b d e command model address number is least most p q r s t u v w test
    holds = absurd (omega arith)

same_option : {A : Type 0} (a b : Option A) → option_to_list a ≡ option_to_list b → a ≡ b
same_option None None p = refl
same_option None (Some y) p = absurd (let lengths : 0 ≡ 1 = ap length p in omega (arith, lengths))
same_option (Some x) None p = absurd (let lengths : 1 ≡ 0 = ap length p in omega (arith, lengths))
same_option (Some x) (Some y) p = ap Some (ap (λ xs. get_or xs 0 x) p)

-- words ask to serve links by one thing
pub one_service : (words : Words) (s t : Service) → IsServe words s → IsServe words t → s ≡ t
one_service words s t p q =
    let same
    : codes "serve" ∷ (s.model ∷ (s.address ∷ (p.0 ∷ option_to_list s.keep_file)))
    ≡ codes "serve" ∷ (t.model ∷ (t.address ∷ (q.0 ∷ option_to_list t.keep_file))) = sym p.1 ∙ q.1 in
    let number : p.0 ≡ q.0 = ap (λ xs. get_or xs 3 []) same in
    let counts : Some s.count ≡ Some t.count = sym p.2 ∙ ap links_asked number ∙ q.2 in
    let model : s.model ≡ t.model = ap (λ xs. get_or xs 1 []) same in
    let address : s.address ≡ t.address = ap (λ xs. get_or xs 2 []) same in
    let count : s.count ≡ t.count = cc in
    let keep_file : s.keep_file ≡ t.keep_file
    = same_option s.keep_file t.keep_file (ap (λ xs. drop 4 xs) same) in λ i.
    record { model = model i; address = address i; count = count i; keep_file = keep_file i }

check_or_words : (words : Words) (name model address number : List ℕ) (keep_file : Option (List ℕ))
    → IsCheck words name → ¬ IsServeWith words model address number keep_file
check_or_words words name model address number None p q =
    let lengths : 2 ≡ 4 = ap length (sym p ∙ q) in absurd (omega (arith, lengths))
check_or_words words name model address number (Some keep_file) p q =
    let lengths : 2 ≡ 5 = ap length (sym p ∙ q) in absurd (omega (arith, lengths))

pub check_or_serve : (words : Words) (name : List ℕ) (s : Service) → IsCheck words name → ¬ IsServe words s
check_or_serve words name s p q = check_or_words words name s.model s.address q.0 s.keep_file p q.1

pub verify_or_serve : (words : Words) (model chain : List ℕ) (s : Service) → IsVerify words model chain
    → ¬ IsServe words s
verify_or_serve words model chain s p q =
    let lengths : 6 ≡ 5 = ap (λ xs. length (get_or xs 0 [])) (sym p ∙ q.1) in absurd (omega (arith, lengths))

pub gen_or_serve : (words : Words) (count : ℕ) (s : Service) → IsGen words count → ¬ IsServe words s
gen_or_serve words count s p q =
    let lengths : 3 ≡ 5 = ap (λ xs. length (get_or xs 0 [])) (sym p.1 ∙ q.1) in absurd (omega (arith, lengths))

pub ruleset apart = (check_or_verify, check_or_gen, check_or_serve, verify_or_gen, verify_or_serve, gen_or_serve)
