-- What a set says of a received frame and its stream is what its exchange says.
use Rattle.std.proofs.Common.{◌≡◌, ℕ, suc, ◌-◌, ◌<◌, Bool, true, false, not, ◌&&◌, ◌||◌, List, [], ◌∷◌, length, Option, Some, None, refl, sym, ap, ◌∙◌, arith}
use Rattle.std.specs.Prelude.{option_map, is_some, nat_lt, ◌==◌, if◌then◌else◌}
use Rattle.std.specs.Option.{option_or}
use Rattle.std.proofs.lemmas.Bool.Decides.{nat_tests}
use Rattle.std.proofs.lemmas.List.{length-map}
use Rattle.h2_frames.specs.declared.code.ErrorCode.{ErrorCode}
use Rattle.h2_frames.specs.declared.code.TheConstants.ErrorCode as code
use Rattle.h2_frames.specs.declared.frame.Frame.{Frame}
use Rattle.h2_frames.specs.declared.frame.Frame.TheVariants.{Content, Headers, Priority, RstStream, Settings, PushPromise, Ping, GoAway, WindowUpdate, Continuation, Unknown}
use Rattle.h2_exchange.specs.declared.role.Role.{Role}
use Rattle.h2_exchange.specs.declared.role.Role.TheVariants.{Client, Server}
use Rattle.h2_exchange.specs.Blocks.{Block, block_with, left_open, open_block, completed}
use Rattle.h2_exchange.specs.Exchange.{Step, Received, received, first_broken}
use Rattle.h2_exchange.specs.Frames.{stream_of, is_headers, is_data, has_end_stream, has_end_headers}
use Rattle.h2_exchange.specs.Rules.{is_client, breaks_block_on}
use Rattle.h2_exchange.specs.Streams.{of_client, highest, is_odd, is_new, begins, begun, is_begun, is_over, is_live, is_live_at, is_ended_by, has_head, live, others_live}
use Rattle.h2_exchange.specs.StreamErrors.{live_error, is_full, block_error, completed_error, stream_error_of}
use Rattle.h2_exchange.proofs.Looking.{or_nothing}
use Rattle.h2_exchange.proofs.Steps.{begun_within, begun_has, begun_once}
use Rattle.h2_streams.specs.declared.live.Stream.{Stream}
use Rattle.h2_streams.specs.ConnectionErrors.{live_error_in}
use Rattle.h2_streams.specs.Receiving as hear
use Rattle.h2_streams.specs.Set.{Set, at, new_stream}
use Rattle.h2_streams.specs.Stands.{stream_at, StandsFor, IsUntouched}
use Rattle.h2_streams.proofs.Counts.{none_out, one_out}
use Rattle.h2_streams.proofs.Judged.{streams_of, live_says}
use Rattle.h2_streams.proofs.Lists.{self_eq}
use Rattle.h2_streams.proofs.ReceivedFrames.{PartIsOn, StandsOn, part_is_on, whole_is_on, last_of, ends_by, begins_now}
use Rattle.h2_streams.proofs.Sound.{IsSound}
use Rattle.h2_streams.proofs.Standing.{at_is}

-- ---- header blocks

abbrev pub pair : Block → ℕ × Bool
pair b = (b.stream, b.last)

part_says : (o : Option Block) (f : Frame) → hear.block_with (option_map pair o) f ≡ option_map pair (block_with o f)
part_says None (Headers b) = refl
part_says None (Content b) = refl
part_says None (Priority b) = refl
part_says None (RstStream b) = refl
part_says None (Settings b) = refl
part_says None (PushPromise b) = refl
part_says None (Ping b) = refl
part_says None (GoAway b) = refl
part_says None (WindowUpdate b) = refl
part_says None (Continuation b) = refl
part_says None (Unknown other b) = refl
part_says (Some block) (Headers b) = refl
part_says (Some block) (Content b) = refl
part_says (Some block) (Priority b) = refl
part_says (Some block) (RstStream b) = refl
part_says (Some block) (Settings b) = refl
part_says (Some block) (PushPromise b) = refl
part_says (Some block) (Ping b) = refl
part_says (Some block) (GoAway b) = refl
part_says (Some block) (WindowUpdate b) = refl
part_says (Some block) (Continuation b) = refl
part_says (Some block) (Unknown other b) = refl

map_when : (t : Bool) (o : Option Block) → (if t then option_map pair o else None) ≡ option_map pair (if t then o else None)
map_when true o = refl
map_when false o = refl

map_unless : (t : Bool) (o : Option Block) → (if t then None else option_map pair o) ≡ option_map pair (if t then None else o)
map_unless true o = refl
map_unless false o = refl

last_says : (o : Option Block) → hear.is_last (option_map pair o) ≡ last_of o
last_says None = refl
last_says (Some b) = refl

some_says : (o : Option Block) → is_some (option_map pair o) ≡ is_some o
some_says None = refl
some_says (Some b) = refl

-- ---- tests

new_by : (a h o l n : Bool) → (l ≡ true → n ≡ true) → (not a && (h && o && l) && n) ≡ (not a && (h && o && l))
new_by true h o l n e = refl
new_by false true true true n e = e refl
new_by false true true false n e = refl
new_by false true false l n e = refl
new_by false false o l n e = refl

begins_facts : (a h o l : Bool) → (not a && (h && o && l)) ≡ true → (h ≡ true) × (o ≡ true) × (l ≡ true)
begins_facts true h o l e = absurd cc
begins_facts false true true true e = (refl, refl, refl)
begins_facts false true true false e = absurd cc
begins_facts false true false l e = absurd cc
begins_facts false false o l e = absurd cc

is_false : (t : Bool) → (t ≡ true → ⊥) → t ≡ false
is_false true g = absurd (g refl)
is_false false g = refl

front_true : (a b : Bool) → (a && b) ≡ true → a ≡ true
front_true true b e = refl
front_true false b e = absurd cc

lt_from : (m n : ℕ) → nat_lt m n ≡ true → m < n
lt_from m n e = grind (arith, nat_tests)

none_live : (t : Bool) (u : Stream) → t ≡ false → not (is_some (if t then Some u else None)) ≡ true
none_live true u e = absurd cc
none_live false u e = refl

head_breaks_nothing : (s : Set) (f : Frame) (t : Stream) → is_headers f ≡ true → live_error_in s f t ≡ None
head_breaks_nothing s (Headers b) t e = refl
head_breaks_nothing s (Content b) t e = absurd cc
head_breaks_nothing s (Priority b) t e = absurd cc
head_breaks_nothing s (RstStream b) t e = absurd cc
head_breaks_nothing s (Settings b) t e = absurd cc
head_breaks_nothing s (PushPromise b) t e = absurd cc
head_breaks_nothing s (Ping b) t e = absurd cc
head_breaks_nothing s (GoAway b) t e = absurd cc
head_breaks_nothing s (WindowUpdate b) t e = absurd cc
head_breaks_nothing s (Continuation b) t e = absurd cc
head_breaks_nothing s (Unknown other b) t e = absurd cc

module _ (s : Set) (x : List Step) (f : Frame) (h : StandsFor s x) (sound : IsSound s f) where
  abbrev k : ℕ
  k = stream_of f

  abbrev pub was_live : Bool
  was_live = is_live s.role x k

  abbrev pub starts : Bool
  starts = begins_now s.role x f

  abbrev pub seen : Stream
  seen = stream_at s.limits x k

  -- ---- the block

  pub part_on : PartIsOn (open_block (received x)) f
  part_on = part_is_on (open_block (received x)) f (ap (λ (o : Option ℕ). breaks_block_on o f) (sym (ap (option_map (λ (p : ℕ × Bool). p.0)) h.block_is ∙ streams_of (open_block (received x)))) ∙ sound.block)

  pub whole_on : StandsOn (open_block (received x)) f
  whole_on = whole_is_on (open_block (received x)) f part_on

  part_agrees : hear.block_with s.block f ≡ option_map pair (block_with (open_block (received x)) f)
  part_agrees = ap (λ (o : Option (ℕ × Bool)). hear.block_with o f) h.block_is ∙ part_says (open_block (received x)) f

  pub completed_agrees : hear.completed_by s.block f ≡ option_map pair (completed (received x) f)
  completed_agrees = ap (λ (o : Option (ℕ × Bool)). if has_end_headers f then o else None) part_agrees ∙ map_when (has_end_headers f) (block_with (open_block (received x)) f)

  pub open_agrees : hear.left_open s.block f ≡ option_map pair (left_open (open_block (received x)) f)
  open_agrees = ap (λ (o : Option (ℕ × Bool)). if has_end_headers f then None else o) part_agrees ∙ map_unless (has_end_headers f) (block_with (open_block (received x)) f)

  pub ends_agree : hear.ends_in s f ≡ ends_by (received x) f
  ends_agree = ap (λ (o : Option (ℕ × Bool)). is_data f && has_end_stream f || hear.is_last o) completed_agrees ∙ ap (λ (b : Bool). is_data f && has_end_stream f || b) (last_says (completed (received x) f))

  pub whole_agrees : is_some (hear.completed_by s.block f) ≡ is_some (completed (received x) f)
  whole_agrees = ap is_some completed_agrees ∙ some_says (completed (received x) f)

  -- ---- the stream

  above_is_none : highest (of_client s.role x) < k → was_live ≡ false
  above_is_none lt = is_false was_live (λ e. omega (arith, lt, begun_within s.role x k (front_true (is_begun s.role x k) (not (is_over x k)) e)))

  pub new_agrees : hear.is_new_in s f ≡ starts
  new_agrees =
      ap (λ (n : ℕ). not (is_client s.role) && (is_headers f && is_odd k && nat_lt n k) && not (is_some (at k s))) h.highest_is
      ∙ new_by (is_client s.role) (is_headers f) (is_odd k) (nat_lt (highest (of_client s.role x)) k) (not (is_some (at k s)))
      (λ e. ap (λ (o : Option Stream). not (is_some o)) (at_is s x h k) ∙ none_live was_live seen (above_is_none (lt_from (highest (of_client s.role x)) k e)))

  pub facts : starts ≡ true → (is_headers f ≡ true) × (is_odd k ≡ true) × (nat_lt (highest (of_client s.role x)) k ≡ true)
  facts e = begins_facts (is_client s.role) (is_headers f) (is_odd k) (nat_lt (highest (of_client s.role x)) k) e

  pub above : starts ≡ true → highest (of_client s.role x) < k
  above e = lt_from (highest (of_client s.role x)) k (facts e).2

  pub was_not_live : starts ≡ true → was_live ≡ false
  was_not_live e = above_is_none (above e)

  pub untouched : starts ≡ true → IsUntouched s.limits x k
  untouched e = h.untouched k (omega (arith, h.highest_is, above e)) (facts e).1

  pub seen_agrees : hear.seen_in s f ≡ (if was_live || starts then Some seen else None)
  seen_agrees =
      ap (λ (b : Bool). if b then Some (new_stream s.limits k) else at k s) new_agrees ∙ ap (λ (o : Option Stream). if starts then Some (new_stream s.limits k) else o) (at_is s x h k)
      ∙ by was_live starts refl refl
    where
      by : (l n : Bool) → was_live ≡ l → starts ≡ n → (if n then Some (new_stream s.limits k) else (if l then Some seen else None)) ≡ (if l || n then Some seen else None)
      by true true p q = ap Some (sym (untouched q).as_new)
      by true false p q = refl
      by false true p q = ap Some (sym (untouched q).as_new)
      by false false p q = refl

  -- ---- how many are live beside it

  long : length s.live ≡ length (live s.role x)
  long = ap length h.live_is ∙ length-map (live s.role x) (stream_at s.limits x)

  less_one : (n m : ℕ) → n ≡ suc m → n - 1 ≡ m
  less_one n m e = omega arith

  pub others_agree : (was_live || starts) ≡ true → hear.others_in s f ≡ others_live s.role x k
  others_agree e = ap (λ (b : Bool). if b then length s.live else length s.live - 1) new_agrees ∙ by was_live starts refl refl e
    where
      by : (l n : Bool) → was_live ≡ l → starts ≡ n → (l || n) ≡ true → (if n then length s.live else length s.live - 1) ≡ others_live s.role x k
      by l true p q e = long ∙ ap length (sym (none_out (is_live s.role x) k (begun s.role x) (begun_has s.role x k ∙ is_false (is_begun s.role x k) (λ b. omega (arith, above q, begun_within s.role x k b)))))
      by true false p q e =
          ap (λ (n : ℕ). n - 1) long
          ∙ less_one (length (live s.role x)) (others_live s.role x k) (one_out (is_live s.role x) k (begun s.role x) (begun_has s.role x k ∙ front_true (is_begun s.role x k) (not (is_over x k)) p) (begun_once s.role x k) p)
      by false false p q e = absurd cc

  -- ---- its error

  live_at_is : is_live_at s.role x f k ≡ (was_live || starts)
  live_at_is = ap (λ (b : Bool). was_live || b) (begins_is s.role)
    where
      begins_is : (r : Role) → begins r k x (Received f) ≡ begins_now r x f
      begins_is Server = or_nothing (is_new (received x) f && k == k) ∙ and_self (is_new (received x) f) (k == k) (self_eq k)
        where
          and_self : (a b : Bool) → b ≡ true → (a && b) ≡ a
          and_self true b e = e
          and_self false b e = refl
      begins_is Client = refl

  full_agrees : (was_live || starts) ≡ true → hear.is_full_in s f ≡ is_full s.role s.limits x k
  full_agrees e = ap (λ (n : ℕ). not (is_client s.role) && not (nat_lt n s.limits.streams)) (others_agree e)

  block_agrees : (was_live || starts) ≡ true → (c : Option Block) → ((b : Block) → c ≡ Some b → b.stream ≡ k) → hear.block_error_in s f seen (option_map pair c) ≡ completed_error s.role s.limits x f false c
  block_agrees e None on = refl
  block_agrees e (Some b) on =
      ap (λ (t : Bool). first_broken ((is_ended_by (received x) k, code.STREAM_CLOSED) ∷ (has_head (received x) k && not b.last, code.PROTOCOL_ERROR) ∷ (not (has_head (received x) k) && t, code.REFUSED_STREAM) ∷ [])) (full_agrees e)
      ∙ ap (λ (t : Bool). if t then block_error s.role s.limits x (record b { stream = k }) false else None) (sym (live_at_is ∙ e))
      ∙ ap (λ (n : ℕ). if is_live_at s.role x f n then block_error s.role s.limits x (record b { stream = n }) false else None) (sym (on b refl))

  no_error : (c : Option Block) → ((b : Block) → c ≡ Some b → b.stream ≡ k) → (was_live || starts) ≡ false → None ≡ completed_error s.role s.limits x f false c
  no_error None on e = refl
  no_error (Some b) on e = ap (λ (t : Bool). if t then block_error s.role s.limits x b false else None) (sym (ap (is_live_at s.role x f) (on b refl) ∙ live_at_is ∙ e))

  pub fault_agrees : hear.fault_in s f ≡ stream_error_of s.role s.limits x f false
  fault_agrees = ap (hear.fault_on s f) seen_agrees ∙ by was_live starts refl refl
    where
      block : (was_live || starts) ≡ true → hear.block_error_in s f seen (hear.completed_by s.block f) ≡ completed_error s.role s.limits x f false (completed (received x) f)
      block e = ap (hear.block_error_in s f seen) completed_agrees ∙ block_agrees e (completed (received x) f) whole_on

      or_same : (a b c d : Option ErrorCode) → a ≡ b → c ≡ d → option_or a c ≡ option_or b d
      or_same a b c d p q = ap (λ (o : Option ErrorCode). option_or o c) p ∙ ap (option_or b) q

      by : (l n : Bool) → was_live ≡ l → starts ≡ n → hear.fault_on s f (if l || n then Some seen else None) ≡ option_or (if l then live_error s.limits x f else None) (completed_error s.role s.limits x f false (completed (received x) f))
      by true n p q = or_same (live_error_in s f seen) (live_error s.limits x f) _ _ (live_says s x f h p) (block (ap (λ (b : Bool). b || starts) p))
      by false true p q = or_same (live_error_in s f seen) None _ _ (head_breaks_nothing s f seen (facts q).0) (block (ap (λ (b : Bool). b || starts) p ∙ q))
      by false false p q = no_error (completed (received x) f) whole_on (ap (λ (b : Bool). b || starts) p ∙ q)
