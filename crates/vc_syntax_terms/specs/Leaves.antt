-- What single tokens are.
use Rattle.std.specs.Prelude.{ℕ, List, [], ◌∷◌, Option, Some, None, option_map, Bool, true, false, if◌then◌else◌}
use denote.Enum.Bare.{sameb}
use Rattle.vc_syntax_tokens.specs.contracts.token.Sign.{the_type as sign_type}
use Rattle.vc_syntax_tokens.specs.contracts.token.Reserved.{the_type as word_type}
use Rattle.vc_syntax_tokens.specs.declared.token.Sign.{Sign}
use Rattle.vc_syntax_tokens.specs.declared.token.Reserved.{Reserved}
use Rattle.vc_syntax_tokens.specs.Spellings.{reserved_spelling}
use Rattle.vc_syntax_tokens.specs.declared.token.Token.{Token}
use Rattle.vc_syntax_tokens.specs.declared.token.Lexeme.{Lexeme}
use Rattle.vc_syntax_tokens.specs.declared.token.Lexeme.TheVariants as lexemes
use Rattle.vc_syntax_tree.specs.declared.NameLeaf.{NameLeaf}
use Rattle.vc_syntax_tree.specs.declared.TextLeaf.{TextLeaf}
use Rattle.vc_syntax_tree.specs.declared.NumberLeaf.{NumberLeaf}
use Rattle.vc_syntax_tokens.specs.declared.token.Dollar.TheVariants as dollars

abbrev pub name_in : Lexeme → ℕ → ℕ → Option NameLeaf
name_in (lexemes.Name name) start end = Some (record { name = name; start = start; end = end })
name_in _ start end = None

abbrev pub name_of : Token → Option NameLeaf
name_of t = name_in t.lexeme t.start t.end

-- a name that may be a reserved word, as that of a table or a class
abbrev pub any_name_in : Lexeme → ℕ → ℕ → Option NameLeaf
any_name_in (lexemes.Name name) start end = Some (record { name = name; start = start; end = end })
any_name_in (lexemes.Reserved word) start end =
    Some (record { name = reserved_spelling word; start = start; end = end })
any_name_in _ start end = None

abbrev pub any_name_of : Token → Option NameLeaf
any_name_of t = any_name_in t.lexeme t.start t.end

abbrev pub any_named : List Token → Option (NameLeaf × List Token)
any_named [] = None
any_named (t ∷ ts) = option_map (λ name. (name, ts)) (any_name_of t)

abbrev pub variable_in : Lexeme → ℕ → ℕ → Option NameLeaf
variable_in (lexemes.Variable name) start end = Some (record { name = name; start = start; end = end })
variable_in _ start end = None

abbrev pub variable_of : Token → Option NameLeaf
variable_of t = variable_in t.lexeme t.start t.end

abbrev pub text_in : Lexeme → ℕ → ℕ → Option TextLeaf
text_in (lexemes.Text text) start end = Some (record { text = text; start = start; end = end })
text_in _ start end = None

abbrev pub text_of : Token → Option TextLeaf
text_of t = text_in t.lexeme t.start t.end

abbrev pub number_in : Lexeme → ℕ → ℕ → Option NumberLeaf
number_in (lexemes.Number number) start end = Some (record { number = number; start = start; end = end })
number_in _ start end = None

abbrev pub number_of : Token → Option NumberLeaf
number_of t = number_in t.lexeme t.start t.end

abbrev pub is_self : Lexeme → Bool
is_self (lexemes.Dollar dollars.Itself) = true
is_self _ = false

-- what follows `$SELF` in front
abbrev pub after_self : List Token → Option (List Token)
after_self [] = None
after_self (t ∷ ts) = if is_self t.lexeme then Some ts else None

-- whether the token is this sign
abbrev pub is_sign : Sign → Lexeme → Bool
is_sign sign (lexemes.Sign found) = sameb sign_type found sign
is_sign sign _ = false

-- whether the token is this reserved word
abbrev pub is_word : Reserved → Lexeme → Bool
is_word word (lexemes.Reserved found) = sameb word_type found word
is_word word _ = false

-- what follows the sign in front
abbrev pub after_sign : Sign → List Token → Option (List Token)
after_sign sign [] = None
after_sign sign (t ∷ ts) = if is_sign sign t.lexeme then Some ts else None

-- what follows the word in front
abbrev pub after_word : Reserved → List Token → Option (List Token)
after_word word [] = None
after_word word (t ∷ ts) = if is_word word t.lexeme then Some ts else None

-- the name in front, and what follows it
abbrev pub named : List Token → Option (NameLeaf × List Token)
named [] = None
named (t ∷ ts) = option_map (λ name. (name, ts)) (name_of t)
