-- What a set that stands for an exchange says of its streams.
use Rattle.std.proofs.Common.{◌≡◌, ℕ, ◌+◌, ◌-◌, ◌<◌, min, Bool, true, false, not, ◌&&◌, List, Some, None, refl, ap, ◌∙◌, arith}
use Rattle.std.specs.Prelude.{find, is_some, if◌then◌else◌}
use Rattle.h2_exchange.specs.Exchange.{Step, received, sent}
use Rattle.h2_exchange.specs.Streams.{begun, is_begun, is_over, is_live, is_open, is_ended_by}
use Rattle.h2_exchange.specs.Windows as windows
use Rattle.h2_exchange.proofs.Steps.{begun_has}
use Rattle.h2_streams.specs.declared.live.Stream.{Stream}
use Rattle.h2_streams.specs.Live.{is_stream}
use Rattle.h2_streams.specs.Set.{Set, at, is_open_in, room_of}
use Rattle.h2_streams.specs.Stands.{stream_at, StandsFor}
use Rattle.h2_streams.proofs.Lists.{found_is}

begun_twice : (b o : Bool) → (b && (b && o)) ≡ (b && o)
begun_twice true o = refl
begun_twice false o = refl

-- a stream is found where it is live, as the exchange says
pub at_is : (s : Set) (x : List Step) → StandsFor s x → (k : ℕ) → at k s ≡ (if is_live s.role x k then Some (stream_at s.limits x k) else None)
at_is s x h k =
    ap (find (is_stream k)) h.live_is
    ∙ found_is (is_live s.role x) (stream_at s.limits x) (λ id. refl) k (begun s.role x)
    ∙ ap (λ (b : Bool). if b && is_live s.role x k then Some (stream_at s.limits x k) else None) (begun_has s.role x k)
    ∙ ap (λ (b : Bool). if b then Some (stream_at s.limits x k) else None) (begun_twice (is_begun s.role x k) (not (is_over x k)))

some_if : (b : Bool) (s : Stream) → is_some (if b then Some s else None) ≡ b
some_if true s = refl
some_if false s = refl

pub live_says : (s : Set) (x : List Step) (k : ℕ) (answer : Bool) → answer ≡ is_some (at k s) → StandsFor s x → answer ≡ is_live s.role x k
live_says s x k answer e h = e ∙ ap is_some (at_is s x h k) ∙ some_if (is_live s.role x k) (stream_at s.limits x k)

open_if : (b : Bool) (s : Stream) → is_open_in (if b then Some s else None) ≡ (b && not s.is_closed_local)
open_if true s = refl
open_if false s = refl

pub open_says : (s : Set) (x : List Step) (k : ℕ) (answer : Bool) → answer ≡ is_open_in (at k s) → StandsFor s x → answer ≡ is_open s.role x k
open_says s x k answer e h = e ∙ ap is_open_in (at_is s x h k) ∙ open_if (is_live s.role x k) (stream_at s.limits x k)

room_if : (live ended : Bool) (s : Set) (stream : Stream) (initial granted used stream_room whole : ℕ) → (live && not ended) ≡ true → stream.is_closed_local ≡ ended →
    stream.room ≡ 2147483648 + granted - used → s.initial ≡ initial → s.send ≡ whole → used < 2147483648 + granted →
    room_of s (if live then Some stream else None) ≡ min (initial + granted - used) whole
room_if true true s stream initial granted used stream_room whole = λ e. absurd cc
room_if false ended s stream initial granted used stream_room whole = λ e. absurd cc
room_if true false s stream initial granted used stream_room whole = λ e f g h i lt. by stream.is_closed_local f (omega arith)
  where
    by : (b : Bool) → b ≡ false → min (s.initial + stream.room - 2147483648) s.send ≡ min (initial + granted - used) whole → (if b then 0 else min (s.initial + stream.room - 2147483648) s.send) ≡ min (initial + granted - used) whole
    by true f r = absurd cc
    by false f r = r

front_true : (a b : Bool) → (a && b) ≡ true → a ≡ true
front_true true b e = refl
front_true false b e = absurd cc

pub room_says : (s : Set) (x : List Step) (k answer : ℕ) → answer ≡ room_of s (at k s) → StandsFor s x → is_open s.role x k ≡ true → answer ≡ windows.may_send x k
room_says s x k answer e h open-here =
    e ∙ ap (room_of s) (at_is s x h k)
    ∙ room_if (is_live s.role x k) (is_ended_by (sent x) k) s (stream_at s.limits x k) (windows.initial_window (received x)) (windows.granted_on k (received x)) (windows.spent_on k (sent x)) 0 (windows.connection_room x)
    open-here refl refl h.initial_is (omega (arith, h.send_is)) (h.covered k (front_true (is_live s.role x k) (not (is_ended_by (sent x) k)) open-here))
