-- THE RESPONSE: its status, what it carries, and its bytes.
use Rattle.std.specs.Prelude.{ℕ, List, [], ◌++◌, codes, decimal, length, unwrap_or, string_bytes}
use Rattle.http.specs.StatusCode.{reason_phrase}
use Rattle.clr_http.specs.declared.response.Fault.{Fault}
use Rattle.clr_http.specs.declared.response.Fault.TheVariants.{BadHead, HeadTooLarge, HeadCut}
use Rattle.clr_http.specs.declared.response.Fault.TheVariants.{NoRoute, NoLength, BadLength}
use Rattle.clr_http.specs.declared.response.Fault.TheVariants.{BodyTooLarge, BodyCut, NoSuch, NoWay}
use Rattle.clr_http.specs.declared.response.Fault.TheVariants.{Unavailable, Foreign, NotCaller}
use Rattle.clr_http.specs.declared.response.Method.{Method}
use Rattle.clr_http.specs.declared.response.Method.TheVariants.{Get, Post}
use Rattle.clr_http.specs.declared.response.Response.{Response}
use Rattle.clr_http.specs.declared.response.Response.TheVariants as made

-- the word of a fault, in its body
abbrev pub fault_word : Fault → List ℕ
fault_word BadHead = codes "BadHead"
fault_word HeadTooLarge = codes "HeadTooLarge"
fault_word HeadCut = codes "HeadCut"
fault_word NoRoute = codes "NoRoute"
fault_word NoLength = codes "NoLength"
fault_word BadLength = codes "BadLength"
fault_word BodyTooLarge = codes "BodyTooLarge"
fault_word BodyCut = codes "BodyCut"
fault_word NoSuch = codes "NoSuch"
fault_word NoWay = codes "NoWay"
fault_word Unavailable = codes "Unavailable"
fault_word Foreign = codes "Foreign"
fault_word NotCaller = codes "NotCaller"

-- the status of a fault
abbrev pub fault_status : Fault → ℕ
fault_status BadHead = 400
fault_status HeadTooLarge = 400
fault_status HeadCut = 400
fault_status NoRoute = 404
fault_status NoLength = 411
fault_status BadLength = 400
fault_status BodyTooLarge = 413
fault_status BodyCut = 400
fault_status NoSuch = 404
fault_status NoWay = 409
fault_status Unavailable = 503
fault_status Foreign = 403
fault_status NotCaller = 403

abbrev pub fault_body : Fault → List ℕ
fault_body fault = codes "{\"fault\":\"" ++ fault_word fault ++ codes "\"}"

abbrev pub method_word : Method → List ℕ
method_word Get = codes "GET"
method_word Post = codes "POST"

-- WHAT A RESPONSE CARRIES: a JSON text with its status; a printed text, which is a 200; or the
-- method that the route has, which is a 405
pub data Content : Type 0 where
  json : ℕ → List ℕ → Content
  printed : List ℕ → Content
  allow : Method → Content

-- the response that reports a fault
abbrev pub fault_response : Fault → Content
fault_response fault = json (fault_status fault) (fault_body fault)

-- what a response that was made carries
abbrev pub content_of : Response → Content
content_of (made.Json status text) = json status (string_bytes text)
content_of (made.Printed text) = printed (string_bytes text)
content_of (made.Allow method) = allow method
content_of made.Unavailable = fault_response Unavailable

abbrev pub status_of : Content → ℕ
status_of (json status text) = status
status_of (printed text) = 200
status_of (allow method) = 405

-- the first line of a response, as far as its end: the status and its phrase
abbrev pub first_line : ℕ → List ℕ → List ℕ
first_line status phrase = codes "HTTP/1.1 " ++ decimal status ++ codes " " ++ phrase

abbrev pub phrase_of : ℕ → List ℕ
phrase_of status = unwrap_or (reason_phrase status) []

-- the fields of a response with a body of this type and length, from the end of its first line on
abbrev pub fields_text : List ℕ → ℕ → List ℕ
fields_text type size =
    codes "\r\nContent-Type: " ++ type ++ codes "\r\nContent-Length: " ++ decimal size
    ++ codes "\r\nConnection: close\r\n\r\n"

abbrev pub whole_text : ℕ → List ℕ → List ℕ → List ℕ
whole_text status type body =
    (first_line status (phrase_of status) ++ fields_text type (length body)) ++ body

-- THE BYTES OF A RESPONSE
abbrev pub response_bytes : Content → List ℕ
response_bytes (json status text) = whole_text status (codes "application/json") text
response_bytes (printed text) = whole_text 200 (codes "text/plain") text
response_bytes (allow method) =
    codes "HTTP/1.1 405 Method Not Allowed\r\nAllow: " ++ method_word method
    ++ codes "\r\nContent-Length: 0\r\nConnection: close\r\n\r\n"
