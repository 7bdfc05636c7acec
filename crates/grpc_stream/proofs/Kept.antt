-- What is known of further header blocks keeps what may be sent.
use Rattle.std.proofs.Common.{◌≡◌, ℕ, Bool, List, [], ◌∷◌, ◌++◌, Option, Some, None, refl, sym, ap, subst, ◌∙◌, inl, inr, append_assoc}
use Rattle.std.specs.Prelude.{is_some, if◌then◌else◌}
use Rattle.h2_frames.specs.declared.code.ErrorCode.{ErrorCode}
use Rattle.h2_frames.specs.declared.frame.Frame.{Frame}
use Rattle.h2_exchange.specs.declared.limits.H2Limits.{H2Limits}
use Rattle.h2_exchange.specs.declared.role.Role.{Role}
use Rattle.h2_exchange.specs.Content.{Outcome}
use Rattle.h2_exchange.specs.Exchange.{Step, Received, Sent, front_before}
use Rattle.h2_exchange.specs.Outcomes.{AreEnough}
use Rattle.h2_exchange.specs.Outgoing.{EndsWith, IsErrorReset, MaySend, opens, acknowledges, credits, credits_stream, resets_error, resets, begins_stream, carries, goes_away}
use Rattle.h2_exchange.specs.Sending.{goaway_text}
use Rattle.h2_exchange.specs.Stops.{Stop, before_stop, stop_at, stop_of}
use Rattle.h2_exchange.proofs.Heads.{enough_front, passed_front, passed_step, error_same, stop_same, later_blocks_change_nothing}
use Rattle.h2_exchange.proofs.Staying.{events_go_on}
use Rattle.grpc_stream.specs.Laws.{SendingIsKept}

module _ (role : Role) (limits : H2Limits) (heads more : List Outcome) where
  kept_front : (o : Option Stop) (s : Step) (b a : List Step) → (o ≡ None → b ≡ a) → (if is_some o then [] else s ∷ b) ≡ (if is_some o then [] else s ∷ a)
  kept_front None s b a k = ap (λ (l : List Step). s ∷ l) (k refl)
  kept_front (Some stop) s b a k = refl

  front_same : (past x : List Step) → stop_of role limits heads past ≡ None → AreEnough role limits heads (past ++ x) →
      front_before (stop_at role limits (heads ++ more)) past x ≡ front_before (stop_at role limits heads) past x
  front_same past [] clear k = refl
  front_same past (s ∷ x) clear k =
      let l : AreEnough role limits heads ((past ++ s ∷ []) ++ x) = subst (AreEnough role limits heads) (sym (append_assoc past (s ∷ []) x)) k in
      let now : stop_at role limits (heads ++ more) past s ≡ stop_at role limits heads past s = stop_same role limits heads more past s (enough_front role limits heads more (past ++ s ∷ []) x l) clear in
      ap (λ (o : Option Stop). if is_some o then [] else s ∷ front_before (stop_at role limits (heads ++ more)) (past ++ s ∷ []) x) now
      ∙ kept_front (stop_at role limits heads past s) s (front_before (stop_at role limits (heads ++ more)) (past ++ s ∷ []) x) (front_before (stop_at role limits heads) (past ++ s ∷ []) x)
      (λ none. front_same (past ++ s ∷ []) x (events_go_on role limits heads past s clear none).0 l)

  module _ (past : List Step) (k : AreEnough role limits heads past) where
    before_same : before_stop role limits (heads ++ more) past ≡ before_stop role limits heads past
    before_same = front_same [] past refl k

    stopped_same : stop_of role limits (heads ++ more) past ≡ stop_of role limits heads past
    stopped_same = (later_blocks_change_nothing.looked_at role limits heads more past k).0

    ends_kept : (bytes rest : List ℕ) (why : ErrorCode) → EndsWith role limits heads bytes past rest why → EndsWith role limits (heads ++ more) bytes past rest why
    ends_kept bytes rest why (inl (place, inl stops)) = inl (place, inl (stopped_same ∙ stops))
    ends_kept bytes rest why (inl (place, inr (clear, breaks))) = inl (place, inr (stopped_same ∙ clear, breaks))
    ends_kept bytes rest why (inr (cause, calm, is)) = inr (cause, stopped_same ∙ calm, is)

    reset_kept : (f : Frame) → IsErrorReset role limits heads past f → IsErrorReset role limits (heads ++ more) past f
    reset_kept f (before, g, why, split, clear, error, text) =
        let enough : AreEnough role limits heads (before ++ Received g ∷ []) = subst (AreEnough role limits heads) split k in
        let clear_too : stop_of role limits heads (before ++ Received g ∷ []) ≡ None = sym (ap (stop_of role limits heads) split) ∙ clear in
        let same = error_same role limits heads more before g enough (passed_front role limits heads more before (Received g ∷ []) (enough, clear_too)).1 (passed_step role limits heads more before (Received g) (enough, clear_too)) in
        (before, g, why, split, stopped_same ∙ clear, same ∙ error, text)

    may_kept : (is_asked : List Step → ℕ → ErrorCode → Bool) (bytes rest : List ℕ) (f : Frame) → MaySend role limits heads is_asked bytes rest past f → MaySend role limits (heads ++ more) is_asked bytes rest past f
    may_kept is_asked bytes rest f (opens first text) = opens first text
    may_kept is_asked bytes rest f (acknowledges is in_turn) = acknowledges is in_turn
    may_kept is_asked bytes rest f (credits n text some within) = credits n text some within
    may_kept is_asked bytes rest f (credits_stream id n text some lives within) = credits_stream id n text some lives within
    may_kept is_asked bytes rest f (resets_error reset) = resets_error (reset_kept f reset)
    may_kept is_asked bytes rest f (resets id why lives asked text) = resets id why lives asked text
    may_kept is_asked bytes rest f (begins_stream begins) = begins_stream begins
    may_kept is_asked bytes rest f (carries is opened) = carries is opened
    may_kept is_asked bytes rest f (goes_away why ends text) = goes_away why (ends_kept bytes rest why ends) (text ∙ ap (λ (b : List Step). goaway_text role b why) (sym before_same))

pub sending_is_kept : SendingIsKept
sending_is_kept = λ role limits heads more is_asked bytes rest x enough sends past behind f split.
    let may = sends past behind f split in
    let k : AreEnough role limits heads past = enough_front role limits heads more past (Sent f ∷ behind) (subst (AreEnough role limits heads) split enough) in
    (may_kept role limits heads more past k is_asked bytes rest f may.0, may.1)
