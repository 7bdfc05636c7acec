-- How many more requests may be cut off, and how far the first message of each request is.
use Rattle.std.specs.Prelude.{◌≡◌, ℕ, ◌+◌, ◌-◌, ◌*◌, ◌==◌, ◌&&◌, ◌||◌, not, nat_le, nat_lt, min, take, length, fold, find, filter, Bool, true, false, List, [], ◌∷◌, Option, Some, None, if◌then◌else◌}
use Rattle.h2_exchange.specs.declared.limits.H2Limits.{H2Limits}
use Rattle.h2_exchange.specs.declared.limits.CalmCause.TheVariants.{Resets}
use Rattle.h2_exchange.specs.declared.role.Role.{Role}
use Rattle.h2_exchange.specs.Content.{Outcome}
use Rattle.h2_exchange.specs.Exchange.{Step}
use Rattle.h2_exchange.specs.Stops.{Stop, Calm, count_steps, request_bytes, ends_call, cuts_request}
use Rattle.h2_exchange.specs.Streams.{is_begun, is_live}
use Rattle.h2_conn.specs.declared.asked.Asked.{Asked}

-- what contracts see of a `Watch`
pub record Watch : Type 0 where
  -- how many more requests may be cut off
  pub left : ℕ
  -- more were cut off
  pub is_passed : Bool
  -- the requests of live streams of which bytes were taken, by rising ids
  pub asked : List Asked

-- the first five bytes as a number
abbrev pub word_of : List ℕ → ℕ
word_of bytes = fold (λ word b. word * 256 + b) 0 (take 5 bytes)

-- how many bytes, as far as it is looked at: five and the longest message
abbrev pub counted_of : List ℕ → ℕ
counted_of bytes = min (length bytes) 4194309

-- these bytes stand on a request so far
abbrev pub IsAsked : List ℕ → Option Asked → Type 0
IsAsked bytes None = bytes ≡ []
IsAsked bytes (Some a) = (a.word ≡ min (word_of bytes) 18446744073709551615) × (a.count ≡ counted_of bytes)

-- its first message is whole
abbrev pub is_whole : Option Asked → Bool
is_whole None = false
is_whole (Some a) = nat_le 5 a.count && nat_le a.word 4194304 && nat_le (5 + a.word) a.count

abbrev pub found_in : ℕ → List Asked → Option Asked
found_in id asked = find (λ a. a.id == id) asked

abbrev pub asked_on : ℕ → Watch → Option Asked
asked_on id w = found_in id w.asked

abbrev pub stop_by : Bool → Option Stop
stop_by false = None
stop_by true = Some (Calm Resets)

-- what a watch says of an exchange that nothing else stops
pub record IsWatched (role : Role) (limits : H2Limits) (heads : List Outcome) (x : List Step) (w : Watch) : Type 0 where
  pub counts : w.is_passed ≡ false → w.left + count_steps (cuts_request role limits heads) x ≡ 1000 + count_steps (ends_call limits heads role) x
  pub requests : (id : ℕ) → is_live role x id ≡ true → IsAsked (request_bytes limits heads role x id) (asked_on id w)
  -- nothing stands on a stream that isn't begun
  pub idle : (id : ℕ) → is_begun role x id ≡ false → (request_bytes limits heads role x id ≡ []) × (asked_on id w ≡ None)

-- ---- what becomes of it

abbrev pub without : ℕ → List Asked → List Asked
without id asked = filter (λ a. not (a.id == id)) asked

-- a stream is over
abbrev pub over_on : ℕ → Watch → Watch
over_on id w = record w { asked = without id w.asked }

abbrev pub cut_if : Bool → Watch → Watch
cut_if true w = w
cut_if false w = record w { left = w.left - 1; is_passed = w.is_passed || w.left == 0 }

-- a stream is reset, which cuts its request off unless the first message is whole
abbrev pub cut_on : ℕ → Watch → Watch
cut_on id w = over_on id (cut_if (is_whole (asked_on id w)) w)

-- ---- the bytes of a request

-- the first five bytes as a number of at most 2^64 - 1, where so many of them were taken into this one
abbrev pub word_with : ℕ → ℕ → List ℕ → ℕ
word_with word count bytes = fold (λ w b. min (min (w * 256) 18446744073709551615 + b) 18446744073709551615) word (take (5 - count) bytes)

abbrev pub asked_with : ℕ → List ℕ → Option Asked → Asked
asked_with id bytes None = record { id = id; word = word_with 0 0 bytes; count = min (0 + length bytes) 4194309 }
asked_with id bytes (Some a) = record { id = id; word = word_with a.word a.count bytes; count = min (a.count + length bytes) 4194309 }

-- a new request goes before the first of a greater id
abbrev pub placed : ℕ → Asked → List Asked → List Asked
placed id a [] = a ∷ []
placed id a (x ∷ asked) = if nat_lt id x.id then a ∷ x ∷ asked else x ∷ placed id a asked

abbrev pub replaced : ℕ → Asked → List Asked → List Asked
replaced id a [] = []
replaced id a (x ∷ asked) = if x.id == id then a ∷ asked else x ∷ replaced id a asked

-- a request as it is now, where this one was found before
abbrev pub put_by : Option Asked → ℕ → Asked → List Asked → List Asked
put_by None id a asked = placed id a asked
put_by (Some old) id a asked = replaced id a asked

abbrev pub asked_behind : ℕ → List ℕ → List Asked → List Asked
asked_behind id bytes asked = put_by (found_in id asked) id (asked_with id bytes (found_in id asked)) asked

-- bytes stand on a request
abbrev pub taken_on : ℕ → List ℕ → Watch → Watch
taken_on id bytes w = record w { asked = asked_behind id bytes w.asked }

-- the client ends a call
abbrev pub ended_if : Bool → Watch → Watch
ended_if false w = w
ended_if true w = record w { left = w.left + 1 }
