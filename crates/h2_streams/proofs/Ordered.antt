-- Ids rise behind a received frame.
use Rattle.std.proofs.Common.{◌≡◌, ℕ, ◌+◌, ◌<◌, Bool, true, false, not, ◌&&◌, ◌||◌, List, [], ◌∷◌, ◌++◌, Option, Some, None, Result, Ok, Err, refl, sym, ap, subst, ◌∙◌, arith}
use Rattle.std.specs.Prelude.{is_some, is_ok, is_err, nat_lt, if◌then◌else◌}
use Rattle.std.proofs.lemmas.Bool.Decides.{nat_tests}
use Rattle.h2_frames.specs.declared.code.ErrorCode.{ErrorCode}
use Rattle.h2_frames.specs.declared.frame.Frame.{Frame}
use Rattle.h2_exchange.specs.declared.role.Role.{Role}
use Rattle.h2_exchange.specs.declared.role.Role.TheVariants.{Client, Server}
use Rattle.h2_exchange.specs.Frames.{stream_of, is_headers, is_rst_stream}
use Rattle.h2_exchange.specs.Rules.{is_client}
use Rattle.h2_exchange.specs.Streams.{is_odd}
use Rattle.h2_streams.specs.declared.live.StreamOutcome.{StreamOutcome}
use Rattle.h2_streams.specs.declared.live.StreamOutcome.TheVariants.{NoStream, Over, Alive}
use Rattle.h2_streams.specs.declared.live.Stream.{Stream}
use Rattle.h2_streams.specs.Live.{with_outcome, IsRising, IsKept}
use Rattle.h2_streams.specs.Receiving.{is_new_in, seen_in, changed_in, outcome_on}
use Rattle.h2_streams.specs.Set.{Set, at, new_stream}
use Rattle.h2_streams.proofs.Places.{found_id}
use Rattle.h2_streams.proofs.Rising.{rises_higher, rises_added, rises_without, rises_replaced}

less : (a b : ℕ) → nat_lt a b ≡ true → a < b
less a b e = grind (arith, nat_tests)

new_above : (c h o l n : Bool) → (not c && (h && o && l) && n) ≡ true → l ≡ true
new_above true h o l n e = absurd cc
new_above false h o true n e = refl
new_above false true true false n e = absurd cc
new_above false true false false n e = absurd cc
new_above false false o false n e = absurd cc

same_stream : (s t : Stream) → Some s ≡ Some t → s ≡ t
same_stream s t e = cc

same_alive : (s t : Stream) → Alive s ≡ Alive t → s ≡ t
same_alive s t e = cc

seen_id : (s : Set) (f : Frame) (t : Stream) → seen_in s f ≡ Some t → t.id ≡ stream_of f
seen_id s f t e = by (is_new_in s f) e
  where
    by : (b : Bool) → (if b then Some (new_stream s.limits (stream_of f)) else at (stream_of f) s) ≡ Some t → t.id ≡ stream_of f
    by true e = ap (λ (u : Stream). u.id) (sym (same_stream (new_stream s.limits (stream_of f)) t e))
    by false e = found_id (stream_of f) t s.live e

-- a stream that is left keeps its id
left_id : (s : Set) (f : Frame) (fault : Option ErrorCode) (seen : Option Stream) (u : Stream) → ((t : Stream) → seen ≡ Some t → t.id ≡ stream_of f) → outcome_on s f fault seen ≡ Alive u → u.id ≡ stream_of f
left_id s f fault None u named e = absurd cc
left_id s f (Some why) (Some t) u named e = absurd cc
left_id s f None (Some t) u named e = by (is_rst_stream f || (changed_in s f t).is_closed_remote && (changed_in s f t).is_closed_local) e
  where
    by : (b : Bool) → (if b then Over else Alive (changed_in s f t)) ≡ Alive u → u.id ≡ stream_of f
    by true e = absurd cc
    by false e = ap (λ (v : Stream). v.id) (sym (same_alive (changed_in s f t) u e)) ∙ named t refl

rises_settled : (high k : ℕ) (new : Bool) (outcome : StreamOutcome) (xs : List Stream) → (new ≡ true → high < k) → ((s : Stream) → outcome ≡ Alive s → s.id ≡ k) → IsRising (high + 1) xs → IsRising ((if new then k else high) + 1) (with_outcome new k outcome xs)
rises_settled high k true NoStream xs above named h = rises_higher (λ (s : Stream). s.id) 0 (high + 1) (k + 1) xs (omega (arith, above refl)) h
rises_settled high k true Over xs above named h = rises_higher (λ (s : Stream). s.id) 0 (high + 1) (k + 1) xs (omega (arith, above refl)) h
rises_settled high k true (Alive s) xs above named h =
    subst (λ (n : ℕ). IsRising (n + 1) (xs ++ s ∷ [])) (named s refl) (rises_added (λ (s : Stream). s.id) 0 (high + 1) xs s (omega (arith, above refl, named s refl)) h)
rises_settled high k false NoStream xs above named h = h
rises_settled high k false Over xs above named h = rises_without 0 (high + 1) k xs h
rises_settled high k false (Alive s) xs above named h = rises_replaced 0 (high + 1) k s xs (named s refl) h

-- of what a call computed
pub rises_here : (s t : Set) (f : Frame) (id highest : ℕ) (new : Bool) (outcome : StreamOutcome) (fault : Option ErrorCode) (seen : Option Stream) (live : List Stream) →
    s ≡ t → id ≡ stream_of f → new ≡ is_new_in t f → seen ≡ seen_in t f → outcome ≡ outcome_on t f fault seen → live ≡ with_outcome new id outcome s.live → highest ≡ (if new then id else s.highest) →
    IsRising (s.highest + 1) s.live → IsRising (highest + 1) live
rises_here s t f id highest new outcome fault seen live same i n g a l top h =
    subst (λ (ls : List Stream). IsRising (highest + 1) ls) (sym l) (
    subst (λ (m : ℕ). IsRising (m + 1) (with_outcome new id outcome s.live)) (sym top) (rises_settled s.highest id new outcome s.live above named h)
    )
  where
    above : new ≡ true → s.highest < id
    above e =
        let top_is : s.highest ≡ t.highest = ap (λ (u : Set). u.highest) same in
        let lt : t.highest < stream_of f = less t.highest (stream_of f) (new_above (is_client t.role) (is_headers f) (is_odd (stream_of f)) (nat_lt t.highest (stream_of f)) (not (is_some (at (stream_of f) t))) (sym n ∙ e)) in
        omega (arith, top_is, lt, i)

    named : (u : Stream) → outcome ≡ Alive u → u.id ≡ id
    named u e = left_id t f fault seen u (λ w q. seen_id t f w (sym g ∙ q)) (sym a ∙ e) ∙ sym i

-- a stream that a client begins
pub kept_begun : {A E : Type 0} (role : Role) (streams places : ℕ) (block : Option (ℕ × Bool)) (high id : ℕ) (s : Stream) (old new : List Stream) (r : Result A E) (failed : Bool) → role ≡ Client → new ≡ (if is_ok r then old ++ s ∷ [] else old) →
    failed ≡ is_err r → failed ≡ false → s.id ≡ id → high < id → IsRising (high + 1) old → IsKept role streams places block id new
kept_begun Server streams places block high id s old new r failed client n e f named lt h = absurd cc
kept_begun Client streams places block high id s old new (Err why) failed client n e f named lt h = absurd cc
kept_begun Client streams places block high id s old new (Ok done) failed client n e f named lt h =
    (tt, subst (λ (l : List Stream). IsRising (id + 1) l) (sym n) (rises_settled high id true (Alive s) old (λ _. lt) (λ t q. ap (λ (u : Stream). u.id) (sym (same_alive s t q)) ∙ named) h))
