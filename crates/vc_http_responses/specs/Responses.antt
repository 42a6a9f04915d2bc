-- The bytes of responses.
use Rattle.std.specs.Prelude.{ℕ, ◌==◌, Bool, false, List, [], ◌∷◌, ◌++◌, codes, length, if◌then◌else◌}
use Rattle.std.specs.Fmt.{decimal}
use Rattle.vc_http_routes.specs.declared.methods.Allow.{Allow}
use Rattle.vc_http_routes.specs.declared.methods.Method.{Method}
use Rattle.vc_http_routes.specs.Methods.{method_text, methods_in}

-- a status with its phrase
abbrev pub status_text : ℕ → List ℕ
status_text status =
    if status == 200 then codes "200 OK"
    else (if status == 400 then codes "400 Bad Request"
    else (if status == 404 then codes "404 Not Found"
    else (if status == 405 then codes "405 Method Not Allowed"
    else (if status == 409 then codes "409 Conflict"
    else (if status == 411 then codes "411 Length Required"
    else (if status == 413 then codes "413 Content Too Large"
    else (if status == 431 then codes "431 Request Header Fields Too Large"
    else (if status == 501 then codes "501 Not Implemented"
    else codes "503 Service Unavailable"))))))))

-- the methods, joined by a comma and a space
abbrev pub joined : List Method → List ℕ
joined [] = []
joined (method ∷ []) = method_text method
joined (method ∷ next ∷ more) = method_text method ++ (codes ", " ++ joined (next ∷ more))

-- the field that says which methods are allowed, where some are
abbrev pub allow_field : List Method → List ℕ
allow_field [] = []
allow_field (method ∷ methods) = codes "allow: " ++ (joined (method ∷ methods) ++ codes "\r\n")

-- the field that says that the connection ends behind the response
abbrev pub connection_field : Bool → List ℕ
connection_field keep = if keep then [] else codes "connection: close\r\n"

-- the head of a response with these words
abbrev pub head_with : List ℕ → List ℕ → List ℕ → List ℕ → List ℕ
head_with status size allow connection =
    codes "HTTP/1.1 " ++ (status ++ (codes "\r\ncontent-type: text/plain; charset=utf-8\r\ncontent-length: "
    ++ (size ++ (codes "\r\n" ++ (allow ++ (connection ++ codes "\r\n"))))))

-- the response with this status, these methods allowed, whether the connection goes on behind it, and this body
abbrev pub response : ℕ → List Method → Bool → List ℕ → List ℕ
response status methods keep body =
    head_with (status_text status) (decimal (length body)) (allow_field methods) (connection_field keep) ++ body

-- what a message that is refused is told, and one for which memory was wanting
abbrev pub bad_body : ℕ → List ℕ
bad_body status = if status == 503 then codes "refused 11 OutOfMemory\n" else codes "refused 0 NotARequest\n"

-- the response to a message that is refused with this status: the connection ends behind it
abbrev pub bad_response : ℕ → Allow → List ℕ
bad_response status allow = response status (methods_in allow) false (bad_body status)
