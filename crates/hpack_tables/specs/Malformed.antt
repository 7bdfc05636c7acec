-- Malformed heads and trailers of HTTP/2 (RFC 9113, sections 8.1 to 8.3).
use Rattle.std.specs.Prelude.{ℕ, ◌==◌, ◌&&◌, ◌||◌, Bool, false, not, nat_lt, List, [], ◌∷◌, drop, count_by, codes, bytes_eq}
use Rattle.std.specs.List.{list_any, list_all, prefix_len}
use Rattle.http_header.specs.FieldName.{is_header_name}
use Rattle.http_header.specs.Token.{is_value_byte}
use Rattle.hpack_tables.specs.declared.field.Field.{Field}

abbrev pub is_among : List (List ℕ) → List ℕ → Bool
is_among names name = list_any (λ n. bytes_eq n name) names

-- a pseudo field's name begins with a colon
abbrev pub is_pseudo_name : List ℕ → Bool
is_pseudo_name [] = false
is_pseudo_name (c ∷ name) = c == 58

abbrev pub is_pseudo : Field → Bool
is_pseudo f = is_pseudo_name f.name

-- fields of a single connection, which HTTP/2 bars (section 8.2.2)
abbrev pub barred : List (List ℕ)
barred = codes "connection" ∷ codes "proxy-connection" ∷ codes "keep-alive" ∷ codes "transfer-encoding" ∷ codes "upgrade" ∷ []

-- a regular field: its name is no header name in lower case, or barred, or `te` with another value than `trailers`
abbrev pub is_bad_regular : Field → Bool
is_bad_regular f = not (is_header_name f.name) || is_among barred f.name || bytes_eq f.name (codes "te") && not (bytes_eq f.value (codes "trailers"))

-- a field of a head that may have these pseudo fields
abbrev pub is_bad_field : List (List ℕ) → Field → Bool
is_bad_field known f = not (list_all is_value_byte f.value) || is_pseudo f && not (is_among known f.name) || not (is_pseudo f) && is_bad_regular f

-- a pseudo field stands behind a regular one
abbrev pub has_late_pseudo : List Field → Bool
has_late_pseudo fields = list_any is_pseudo (drop (prefix_len is_pseudo fields) fields)

abbrev pub is_named : List ℕ → Field → Bool
is_named name f = bytes_eq f.name name

abbrev pub times : List Field → List ℕ → ℕ
times fields name = count_by (is_named name) fields

-- a head that may have these known pseudo fields, each at most once, and needs these
abbrev pub is_malformed_with : List (List ℕ) → List (List ℕ) → List Field → Bool
is_malformed_with known needed fields =
    list_any (is_bad_field known) fields || has_late_pseudo fields
    || list_any (λ name. nat_lt 1 (times fields name)) known || list_any (λ name. times fields name == 0) needed

-- the pseudo fields that a request must have, and those that it may have (section 8.3.1)
abbrev pub request_needs : List (List ℕ)
request_needs = codes ":method" ∷ codes ":scheme" ∷ codes ":path" ∷ []

abbrev pub request_may_have : List (List ℕ)
request_may_have = codes ":method" ∷ codes ":scheme" ∷ codes ":path" ∷ codes ":authority" ∷ []

abbrev pub is_malformed_request : List Field → Bool
is_malformed_request fields = is_malformed_with request_may_have request_needs fields

-- a response has `:status` alone (section 8.3.2)
abbrev pub is_malformed_response : List Field → Bool
is_malformed_response fields = is_malformed_with (codes ":status" ∷ []) (codes ":status" ∷ []) fields

-- trailers are malformed where they have a pseudo field (section 8.1)
abbrev pub is_malformed_trailers : List Field → Bool
is_malformed_trailers fields = list_any is_pseudo fields
