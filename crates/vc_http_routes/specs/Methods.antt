-- The methods of requests, and which of them a response allows.
use Rattle.std.specs.Prelude.{ℕ, Bool, true, false, List, [], ◌∷◌, codes, Option}
use Rattle.std.specs.List.{find, list_any}
use Rattle.std.specs.Str.{bytes_eq}
use Rattle.vc_http_routes.specs.declared.methods.Allow.{Allow}
use Rattle.vc_http_routes.specs.declared.methods.Allow.TheVariants as allowed
use Rattle.vc_http_routes.specs.declared.methods.Method.{Method}
use Rattle.vc_http_routes.specs.declared.methods.Method.TheVariants as by

-- how a method is written; its case counts
abbrev pub method_text : Method → List ℕ
method_text by.Get = codes "GET"
method_text by.Post = codes "POST"
method_text by.Put = codes "PUT"
method_text by.Delete = codes "DELETE"

-- the method of this name, if it is one of the four
abbrev pub method_of : List ℕ → Option Method
method_of name = find (λ method. bytes_eq name (method_text method)) (by.Get ∷ by.Post ∷ by.Put ∷ by.Delete ∷ [])

abbrev pub same_method : Method → Method → Bool
same_method by.Get by.Get = true
same_method by.Post by.Post = true
same_method by.Put by.Put = true
same_method by.Delete by.Delete = true
same_method one other = false

-- whether the method is among these
abbrev pub has_method : List Method → Method → Bool
has_method methods method = list_any (same_method method) methods

-- the methods that are allowed
abbrev pub methods_in : Allow → List Method
methods_in allowed.Nothing = []
methods_in allowed.Get = by.Get ∷ []
methods_in allowed.Post = by.Post ∷ []
methods_in allowed.Delete = by.Delete ∷ []
methods_in allowed.GetDelete = by.Get ∷ by.Delete ∷ []
methods_in allowed.PutPostDelete = by.Put ∷ by.Post ∷ by.Delete ∷ []
