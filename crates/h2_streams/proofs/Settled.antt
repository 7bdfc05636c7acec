-- The live streams behind a received frame, by what becomes of its stream.
use Rattle.std.proofs.Common.{◌≡◌, ℕ, Bool, true, false, ◌||◌, List, [], ◌∷◌, ◌++◌, map, refl, sym, ap, ◌∙◌, arith}
use Rattle.std.specs.Prelude.{filter, ◌==◌, if◌then◌else◌}
use Rattle.std.specs.List.{list_any}
use Rattle.std.proofs.lemmas.List.{append-nil}
use Rattle.h2_frames.specs.declared.frame.Frame.{Frame}
use Rattle.h2_exchange.specs.Exchange.{Step}
use Rattle.h2_exchange.specs.Frames.{stream_of}
use Rattle.h2_exchange.specs.Streams.{begun, is_begun, is_live, live}
use Rattle.h2_exchange.proofs.Steps.{begun_has, begun_once, begun_within}
use Rattle.h2_streams.specs.declared.live.StreamOutcome.TheVariants.{Over, Alive}
use Rattle.h2_streams.specs.declared.live.Stream.{Stream}
use Rattle.h2_streams.specs.Live.{replaced, without, with_outcome}
use Rattle.h2_streams.specs.Set.{Set}
use Rattle.h2_streams.specs.Stands.{stream_at, StandsFor}
use Rattle.h2_streams.proofs.Agrees.{above}
use Rattle.h2_streams.proofs.Lists.{replaced_is, without_is, added_is, gone_is, dead_is}
use Rattle.h2_streams.proofs.ReceivedFrames.{begins_now}
use Rattle.h2_streams.proofs.Sound.{IsSound}

is_false : (t : Bool) → (t ≡ true → ⊥) → t ≡ false
is_false true g = absurd (g refl)
is_false false g = refl

module _ (s : Set) (x : List Step) (f : Frame) (h : StandsFor s x) (sound : IsSound s f) (y : List Step) where
  abbrev k : ℕ
  k = stream_of f

  abbrev starts : Bool
  starts = begins_now s.role x f

  abbrev lives : Bool
  lives = is_live s.role x k

  abbrev Target : List Stream → Type 0
  Target list = list ≡ map (stream_at s.limits y) (live s.role y)

  module _ (begun_is : begun s.role y ≡ begun s.role x ++ (if starts then k ∷ [] else [])) (others : (id : ℕ) → (id ≡ k → ⊥) → (is_live s.role y id ≡ is_live s.role x id) × (stream_at s.limits y id ≡ stream_at s.limits x id)) where
    list_of : (n : Bool) → starts ≡ n → map (stream_at s.limits y) (live s.role y) ≡ map (stream_at s.limits y) (filter (is_live s.role y) (begun s.role x ++ (if n then k ∷ [] else [])))
    list_of n e = ap (λ (ids : List ℕ). map (stream_at s.limits y) (filter (is_live s.role y) ids)) (begun_is ∙ ap (λ (b : Bool). begun s.role x ++ (if b then k ∷ [] else [])) e)

    old_list : starts ≡ false → map (stream_at s.limits y) (live s.role y) ≡ map (stream_at s.limits y) (filter (is_live s.role y) (begun s.role x))
    old_list e = list_of false e ∙ ap (λ (ids : List ℕ). map (stream_at s.limits y) (filter (is_live s.role y) ids)) (append-nil (begun s.role x))

    not_begun : starts ≡ true → list_any (λ id. id == k) (begun s.role x) ≡ false
    not_begun e = begun_has s.role x k ∙ is_false (is_begun s.role x k) (λ b. omega (arith, above s x f h sound e, begun_within s.role x k b))

    pub over_list : is_live s.role y k ≡ false → Target (with_outcome starts k Over s.live)
    over_list dead = by starts refl
      where
        by : (n : Bool) → starts ≡ n → Target (with_outcome n k Over s.live)
        by true e = h.live_is ∙ sym (gone_is (is_live s.role x) (is_live s.role y) (stream_at s.limits x) (stream_at s.limits y) (λ id. refl) k others dead (begun s.role x) (not_begun e)) ∙ sym (list_of true e)
        by false e = ap (without k) h.live_is ∙ sym (without_is (is_live s.role x) (is_live s.role y) (stream_at s.limits x) (stream_at s.limits y) (λ id. refl) k others dead (begun s.role x)) ∙ sym (old_list e)

    pub alive_list : (t : Stream) → (lives || starts) ≡ true → is_live s.role y k ≡ true → t ≡ stream_at s.limits y k → Target (with_outcome starts k (Alive t) s.live)
    alive_list t seen alive same = by starts refl
      where
        left : (a b : Bool) → (a || b) ≡ true → b ≡ false → a ≡ true
        left true b e g = refl
        left false true e g = absurd cc
        left false false e g = absurd cc

        by : (n : Bool) → starts ≡ n → Target (with_outcome n k (Alive t) s.live)
        by true e =
            ap (λ (l : List Stream). l ++ t ∷ []) h.live_is ∙ ap (λ (u : Stream). map (stream_at s.limits x) (live s.role x) ++ u ∷ []) same
            ∙ sym (added_is (is_live s.role x) (is_live s.role y) (stream_at s.limits x) (stream_at s.limits y) (λ id. refl) k others alive (begun s.role x) (not_begun e)) ∙ sym (list_of true e)
        by false e =
            ap (replaced k t) h.live_is ∙ ap (λ (u : Stream). replaced k u (map (stream_at s.limits x) (live s.role x))) same
            ∙ sym (replaced_is (is_live s.role x) (is_live s.role y) (stream_at s.limits x) (stream_at s.limits y) (λ id. refl) k others (alive ∙ sym (left lives starts seen e)) (begun s.role x) (begun_once s.role x k)) ∙ sym (old_list e)

    pub unseen_list : (lives || starts) ≡ false → is_live s.role y k ≡ false → Target s.live
    unseen_list unseen dead =
        h.live_is ∙ sym (dead_is (is_live s.role x) (is_live s.role y) (stream_at s.limits x) (stream_at s.limits y) (λ id. refl) k others dead (neither lives starts unseen).0 (begun s.role x)) ∙ sym (old_list (neither lives starts unseen).1)
      where
        neither : (a b : Bool) → (a || b) ≡ false → (a ≡ false) × (b ≡ false)
        neither true b e = absurd cc
        neither false b e = (refl, e)
