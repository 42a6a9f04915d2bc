-- Responses of the subject, by the byte.
use Rattle.std.proofs.Common.{◌≡◌, [], ◌++◌, true, refl}
use Rattle.std.specs.Prelude.{codes}
use Rattle.std.specs.Fmt.{digits}
use Rattle.vc_http_routes.specs.declared.methods.Allow.TheVariants as allowed
use Rattle.vc_http_responses.specs.Responses.{bad_response, response}

-- a session that isn't open is asked for, and the connection goes on
no_session : response 404 [] true (codes "refused 1 NoSession\n")
    ≡ codes "HTTP/1.1 404 Not Found\r\ncontent-type: text/plain; charset=utf-8\r\ncontent-length: 20\r\n\r\n"
    ++ codes "refused 1 NoSession\n"
unfolding digits
no_session = refl

-- one is opened
opened : response 200 [] true (codes "ok open\n")
    ≡ codes "HTTP/1.1 200 OK\r\ncontent-type: text/plain; charset=utf-8\r\ncontent-length: 8\r\n\r\nok open\n"
unfolding digits
opened = refl

-- a message in chunks
chunked : bad_response 501 allowed.Nothing
    ≡ codes "HTTP/1.1 501 Not Implemented\r\ncontent-type: text/plain; charset=utf-8\r\ncontent-length: 22\r\n"
    ++ codes "connection: close\r\n\r\nrefused 0 NotARequest\n"
unfolding digits
chunked = refl

-- a method that the route hasn't
patched : bad_response 405 allowed.Post
    ≡ codes "HTTP/1.1 405 Method Not Allowed\r\ncontent-type: text/plain; charset=utf-8\r\ncontent-length: 22\r\n"
    ++ codes "allow: POST\r\nconnection: close\r\n\r\nrefused 0 NotARequest\n"
unfolding digits
patched = refl

-- three methods are told in the order of the route's
three_methods : bad_response 405 allowed.PutPostDelete
    ≡ codes "HTTP/1.1 405 Method Not Allowed\r\ncontent-type: text/plain; charset=utf-8\r\ncontent-length: 22\r\n"
    ++ codes "allow: PUT, POST, DELETE\r\nconnection: close\r\n\r\nrefused 0 NotARequest\n"
unfolding digits
three_methods = refl

-- a value without its length
without_length : bad_response 411 allowed.Nothing
    ≡ codes "HTTP/1.1 411 Length Required\r\ncontent-type: text/plain; charset=utf-8\r\ncontent-length: 22\r\n"
    ++ codes "connection: close\r\n\r\nrefused 0 NotARequest\n"
unfolding digits
without_length = refl

-- memory was wanting
no_memory : bad_response 503 allowed.Nothing
    ≡ codes "HTTP/1.1 503 Service Unavailable\r\ncontent-type: text/plain; charset=utf-8\r\ncontent-length: 23\r\n"
    ++ codes "connection: close\r\n\r\nrefused 11 OutOfMemory\n"
unfolding digits
no_memory = refl
