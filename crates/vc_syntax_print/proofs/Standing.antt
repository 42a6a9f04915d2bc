-- What is made simpler is told apart again in its text.
use Rattle.std.proofs.Common.{◌≡◌, Bool, true, false, not, List, [], ◌∷◌, ◌++◌, refl, sym, ap, subst, ◌∙◌, append_assoc}
use Rattle.std.specs.Prelude.{◌&&◌, ◌||◌}
use Rattle.vc_syntax_tokens.specs.declared.token.Token.{Token}
use Rattle.vc_syntax_tokens.specs.declared.token.Lexeme.{Lexeme}
use Rattle.vc_syntax_tokens.specs.declared.token.Lexeme.TheVariants as lexemes
use Rattle.vc_syntax_tokens.specs.declared.token.Sign.TheVariants.{Dot, Colon, Period}
use Rattle.vc_syntax_tokens.specs.declared.token.Reserved.TheVariants as words
use Rattle.vc_syntax_tokens.specs.Texts.{is_dot, is_period}
use Rattle.vc_syntax_tokens.specs.Written.{is_lexeme, is_word, is_star, stands_before, begins_no_comment}
use Rattle.vc_syntax_print.proofs.Simpler as simpler
use Rattle.vc_syntax_print.proofs.Simpler.{Same, Simpler, Sections}
use Rattle.vc_syntax_print.proofs.Nesting.{AllGood, all_good_front, all_good_back}

-- each may stand where it stands
abbrev pub Together : List Lexeme → Type 0
Together [] = Unit {0}
Together (m ∷ ms) = (is_lexeme m ≡ true) × (stands_before m ms ≡ true) × Together ms

plain_stands : (m : Lexeme) (ms : List Lexeme) → is_dot m ≡ false → is_period m ≡ false → stands_before m ms ≡ true
plain_stands m [] d p = ap not d
plain_stands m (n ∷ ns) d p =
    ap (λ b. (not b || is_word n) && not (is_period m && is_star n)) d
    ∙ ap (λ b. (not false || is_word n) && not (b && is_star n)) p

together_same : (l m : Lexeme) (ms : List Lexeme) → Same l m → Together ms → Together (m ∷ ms)
together_same l m ms same next = (same.good, plain_stands m ms same.no_dot same.no_period, next)

appended : (ms ns ks : List Lexeme) → Together (ms ++ (ns ++ ks)) → Together ((ms ++ ns) ++ ks)
appended ms ns ks next = subst Together (sym (append_assoc ms ns ks)) next

pub keeps_together : (ends : Bool) (ts : List Token) (ms : List Lexeme) → Simpler ends ts ms → AllGood ts
    → (ns : List Lexeme) → Together ns → Together (ms ++ ns)
keeps_together _ _ _ (simpler.token {t = t} {m = m} ends a e s) good ns next =
    together_same t.lexeme m ns (a good.0) next
keeps_together _ _ _ (simpler.before t m ts ms a s x) good ns next =
    together_same t.lexeme m (ms ++ ns) (a good.0) (keeps_together _ ts ms x good.1 ns next)
keeps_together _ _ _ (simpler.dotted t dot u m name a s d e) good ns next =
    together_same t.lexeme m (lexemes.Sign Dot ∷ lexemes.Name name ∷ ns) (a good.0)
    (refl, refl, (subst (λ l. is_lexeme l ≡ true) e good.1.1.0, plain_stands (lexemes.Name name) ns refl refl, next))
keeps_together _ _ _ (simpler.joined ts us ms ks x y) good ns next =
    appended ms ks ns (keeps_together _ ts ms x (all_good_front ts us good) (ks ++ ns)
    (keeps_together _ us ks y (all_good_back ts us good) ns next))
keeps_together _ _ _ (simpler.operated ts t us ms m ks x a y) good ns next =
    let back : AllGood (t ∷ us) = all_good_back ts (t ∷ us) good in
    appended ms (m ∷ ks) ns (keeps_together _ ts ms x (all_good_front ts (t ∷ us) good) (m ∷ (ks ++ ns))
    (together_same t.lexeme m (ks ++ ns) (a back.0) (keeps_together _ us ks y back.1 ns next)))
keeps_together _ _ _ (simpler.unwrapped opening ts closing ms o x c) good ns next =
    keeps_together _ ts ms x (all_good_front ts (closing ∷ []) good.1) ns next
keeps_together _ _ _ (simpler.turned ts t ms x w) good ns next = (
  refl,
  plain_stands (lexemes.Reserved words.Specified) (ms ++ ns) refl refl,
  keeps_together _ ts ms x
      (all_good_front ts (t ∷ []) good) ns next,
)

pub begins : (ends : Bool) (ts : List Token) (ms : List Lexeme) → Simpler ends ts ms → (ns : List Lexeme)
    → begins_no_comment (ms ++ ns) ≡ true
begins _ _ _ (simpler.token ends a e s) ns = ap not s
begins _ _ _ (simpler.before t m ts ms a s x) ns = ap not s
begins _ _ _ (simpler.dotted t dot u m name a s d e) ns = ap not s
begins _ _ _ (simpler.joined ts us ms ks x y) ns = ap begins_no_comment (append_assoc ms ks ns)
    ∙ begins _ ts ms x (ks ++ ns)
begins _ _ _ (simpler.operated ts t us ms m ks x a y) ns = ap begins_no_comment (append_assoc ms (m ∷ ks) ns)
    ∙ begins _ ts ms x (m ∷ (ks ++ ns))
begins _ _ _ (simpler.unwrapped opening ts closing ms o x c) ns = begins _ ts ms x ns
begins _ _ _ (simpler.turned ts t ms x w) ns = refl

-- what begins with no `*` may stand behind a period
behind_period : (ns : List Lexeme) → begins_no_comment ns ≡ true → stands_before (lexemes.Sign Period) ns ≡ true
behind_period [] h = refl
behind_period (n ∷ ns) h = h

pub sections_begin : (ts : List Token) (ms : List Lexeme) → Sections ts ms → begins_no_comment ms ≡ true
sections_begin _ _ simpler.none = refl
sections_begin _ _ (simpler.section t colon ts period us word ms ns a e x f y) = refl

pub sections_together : (ts : List Token) (ms : List Lexeme) → Sections ts ms → AllGood ts → Together ms
sections_together _ _ simpler.none good = tt
sections_together _ _ (simpler.section t colon ts period us word ms ns a e x f y) good =
    let back : AllGood (period ∷ us) = all_good_back ts (period ∷ us) good.1.1 in
    let rest : List Lexeme = ms ++ lexemes.Sign Period ∷ ns in
    together_same t.lexeme (lexemes.Reserved word) (lexemes.Sign Colon ∷ rest) (a good.0) (
      refl,
      plain_stands (lexemes.Sign Colon) rest refl refl,
      keeps_together _ ts ms x (all_good_front ts (period ∷ us) good.1.1) (lexemes.Sign Period ∷ ns)
          (refl, behind_period ns (sections_begin us ns y), sections_together us ns y back.1),
    )
