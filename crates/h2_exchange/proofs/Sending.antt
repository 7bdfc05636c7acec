-- What a side sends, and what of it answers a stream.
use Rattle.std.proofs.Common.{◌≡◌, ◌⊎◌, ℕ, Bool, List, [], ◌∷◌, ◌++◌, Some, None, sym, ap, subst, ◌∙◌, inl, inr, append_assoc}
use Rattle.std.proofs.lemmas.List.{append-nil, same_from_push}
use Rattle.h2_frames.specs.declared.code.ErrorCode.{ErrorCode}
use Rattle.h2_frames.specs.declared.frame.Frame.{Frame}
use Rattle.h2_exchange.specs.declared.limits.H2Limits.{H2Limits}
use Rattle.h2_exchange.specs.declared.role.Role.{Role}
use Rattle.h2_exchange.specs.Content.{Outcome}
use Rattle.h2_exchange.specs.Exchange.{Step, Received, Sent}
use Rattle.h2_exchange.specs.Laws.{AllIsPrefix, OnlyTheseAreSent}
use Rattle.h2_exchange.specs.Outgoing.{MaySend, HasPlace, SendsOnly}
use Rattle.h2_exchange.specs.StreamParts.{Message, Finish}
use Rattle.h2_exchange.proofs.Ordering.{cut_push}

pub all_is_prefix : {E : Type 0} → AllIsPrefix E
all_is_prefix (m ∷ ms) rest end (Message n ∷ items) (same, others) = (same, all_is_prefix ms rest end items others)
all_is_prefix (m ∷ ms) rest end (Finish e ∷ items) h = absurd h
all_is_prefix (m ∷ ms) rest end [] h = absurd h
all_is_prefix [] rest None [] h = h
all_is_prefix [] rest None (Message n ∷ items) h = absurd h
all_is_prefix [] rest None (Finish e ∷ items) h = absurd h
all_is_prefix [] rest (Some end) [] h = absurd h
all_is_prefix [] rest (Some end) (Message n ∷ items) h = absurd h
all_is_prefix [] rest (Some end) (Finish e ∷ []) h = h
all_is_prefix [] rest (Some end) (Finish e ∷ i ∷ items) h = absurd h

-- the frame of a step that was sent
sent_is : (f g : Frame) → Sent f ≡ Sent g → f ≡ g
sent_is f g e = cc

never_sent : (f g : Frame) → Received f ≡ Sent g → ⊥
never_sent f g e = cc

-- a sent frame of an exchange with one more step stands in the old one, or is that step
last_or_earlier : (x past behind : List Step) (s : Step) (f : Frame) → x ++ s ∷ [] ≡ past ++ Sent f ∷ behind → ((x ≡ past) × (s ≡ Sent f)) ⊎ ((rest : List Step) × (x ≡ past ++ Sent f ∷ rest))
last_or_earlier x past behind s f e =
    let split : x ++ s ∷ [] ≡ (past ++ Sent f ∷ []) ++ behind = e ∙ sym (append_assoc past (Sent f ∷ []) behind) in
    elim (cut_push x s (past ++ Sent f ∷ []) behind split) [
      | inl none ↦ inl (same_from_push x past s (Sent f) (split ∙ ap (λ (l : List Step). (past ++ Sent f ∷ []) ++ l) none ∙ append-nil (past ++ Sent f ∷ [])))
      | inr r ↦ inr (r.0, r.1 ∙ append_assoc past (Sent f ∷ []) r.0)
    ]

module _ (role : Role) (limits : H2Limits) (heads : List Outcome) (is_asked : List Step → ℕ → ErrorCode → Bool) (bytes rest : List ℕ) (x : List Step) where
  abbrev MayStand : List Step → Frame → Type 0
  MayStand past f = MaySend role limits heads is_asked bytes rest past f × HasPlace past f

  after_received : (f : Frame) → SendsOnly role limits heads is_asked bytes rest x → SendsOnly role limits heads is_asked bytes rest (x ++ Received f ∷ [])
  after_received f old past behind g e =
      elim (last_or_earlier x past behind (Received f) g e) [
        | inl now ↦ absurd (never_sent f g now.1)
        | inr r ↦ old past r.0 g r.1
      ]

  after_sent : (f : Frame) → MaySend role limits heads is_asked bytes rest x f → HasPlace x f → SendsOnly role limits heads is_asked bytes rest x → SendsOnly role limits heads is_asked bytes rest (x ++ Sent f ∷ [])
  after_sent f may place old past behind g e =
      elim (last_or_earlier x past behind (Sent f) g e) [
        | inl now ↦ subst (λ (p : List Step). MayStand p g) now.0 (subst (MayStand x) (sent_is f g now.1) (may, place))
        | inr r ↦ old past r.0 g r.1
      ]

pub only_these_are_sent : OnlyTheseAreSent
only_these_are_sent role limits heads is_asked bytes rest x = record {
  received = after_received role limits heads is_asked bytes rest x;
  sent = after_sent role limits heads is_asked bytes rest x;
}
