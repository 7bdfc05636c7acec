-- An exchange with one more step, cut at one of its steps; and what holds of all cuts.
use Rattle.std.proofs.Common.{◌≡◌, Bool, true, false, List, [], ◌∷◌, ◌++◌, length, ◌≤◌, Some, None, refl, sym, ap, subst, ◌∙◌, drop}
use Rattle.h2_frames.specs.declared.code.ErrorCode.{ErrorCode}
use Rattle.h2_frames.specs.declared.frame.Frame.{Frame}
use Rattle.h2_frames.specs.declared.frame.Frame.TheVariants.{Content}
use Rattle.h2_frames.specs.declared.frame.FrameBody.{FrameBody}
use Rattle.h2_frames.specs.Layout.{frame_text}
use Rattle.h2_exchange.specs.declared.limits.H2Limits.{H2Limits}
use Rattle.h2_exchange.specs.declared.role.Role.{Role}
use Rattle.h2_exchange.specs.Content.{Outcome, stream_error}
use Rattle.h2_exchange.specs.Exchange.{Step, Received, Sent}
use Rattle.h2_exchange.specs.Frames.{stream_of}
use Rattle.h2_exchange.specs.Outgoing.{HasPlace}
use Rattle.h2_exchange.specs.Sending.{reset_text, ResetsErrors}
use Rattle.h2_exchange.specs.Stops.{stop_of}
use Rattle.h2_exchange.specs.Windows.{may_send, IsWithinWindows}
use Rattle.http_connection.specs.ConnectionTrace.{ArePlaced}

abbrev step_or : Step → List Step → Step
step_or other [] = other
step_or other (s ∷ x) = s

pub data Cut (x : List Step) (s : Step) (past : List Step) (t : Step) (behind : List Step) : Type 0 where
  last : past ≡ x → t ≡ s → behind ≡ [] → Cut x s past t behind
  within : (more : List Step) → behind ≡ more ++ s ∷ [] → x ≡ past ++ t ∷ more → Cut x s past t behind

later : (y p : Step) (x : List Step) (s : Step) (past : List Step) (t : Step) (behind : List Step) → y ≡ p → Cut x s past t behind → Cut (y ∷ x) s (p ∷ past) t behind
later y p x s past t behind e (last a b c) = last (ap (λ (z : List Step). p ∷ z) a ∙ ap (λ (q : Step). q ∷ x) (sym e)) b c
later y p x s past t behind e (within more a b) = within more a (ap (λ (q : Step). q ∷ x) e ∙ ap (λ (z : List Step). p ∷ z) b)

pub cut_push : (x : List Step) (s : Step) (past : List Step) (t : Step) (behind : List Step) → x ++ s ∷ [] ≡ past ++ t ∷ behind → Cut x s past t behind
cut_push [] s [] t behind e = last refl (sym (ap (step_or s) e)) (sym (ap (λ (z : List Step). drop 1 z) e))
cut_push [] s (p ∷ []) t behind e = absurd cc
cut_push [] s (p ∷ q ∷ past) t behind e = absurd cc
cut_push (y ∷ x) s [] t behind e = within x (sym (ap (λ (z : List Step). drop 1 z) e)) (ap (λ (q : Step). q ∷ x) (ap (step_or s) e))
cut_push (y ∷ x) s (p ∷ past) t behind e = later y p x s past t behind (ap (step_or s) e) (cut_push x s past t behind (ap (λ (z : List Step). drop 1 z) e))

abbrev pub frame_or : Frame → Step → Frame
frame_or other (Sent f) = f
frame_or other (Received f) = f

abbrev pub is_sent : Step → Bool
is_sent (Sent f) = true
is_sent (Received f) = false

-- ---- where sent frames stand

placed_at : (x : List Step) (f : Frame) → ArePlaced x → HasPlace x f → (past behind : List Step) (g : Frame) → Cut x (Sent f) past (Sent g) behind → HasPlace past g
placed_at x f h p past behind g (last a b c) =
    let same : g ≡ f = ap (frame_or f) b in subst (λ (y : List Step). HasPlace y g) (sym a) (subst (λ (k : Frame). HasPlace x k) (sym same) p)
placed_at x f h p past behind g (within more a b) = h past more g b

pub placed_push : (x : List Step) (f : Frame) → ArePlaced x → HasPlace x f → ArePlaced (x ++ Sent f ∷ [])
placed_push x f h p past behind g e = placed_at x f h p past behind g (cut_push x (Sent f) past (Sent g) behind e)

placed_by : (x : List Step) (f : Frame) → ArePlaced x → (past behind : List Step) (g : Frame) → Cut x (Received f) past (Sent g) behind → HasPlace past g
placed_by x f h past behind g (last a b c) = let no : true ≡ false = ap is_sent b in absurd cc
placed_by x f h past behind g (within more a b) = h past more g b

pub placed_heard : (x : List Step) (f : Frame) → ArePlaced x → ArePlaced (x ++ Received f ∷ [])
placed_heard x f h past behind g e = placed_by x f h past behind g (cut_push x (Received f) past (Sent g) behind e)

-- ---- windows

abbrev pub Fits : List Step → Frame → Type 0
Fits x f = (b : FrameBody) → f ≡ Content b → length b.payload ≤ may_send x b.stream

windows_at : (x : List Step) (f : Frame) → IsWithinWindows x → Fits x f → (past behind : List Step) (b : FrameBody) → Cut x (Sent f) past (Sent (Content b)) behind → length b.payload ≤ may_send past b.stream
windows_at x f h p past behind b (last a e c) =
    let same : f ≡ Content b = sym (ap (frame_or f) e) in subst (λ (y : List Step). length b.payload ≤ may_send y b.stream) (sym a) (p b same)
windows_at x f h p past behind b (within more a e) = h past more b e

pub windows_push : (x : List Step) (f : Frame) → IsWithinWindows x → Fits x f → IsWithinWindows (x ++ Sent f ∷ [])
windows_push x f h p past behind b e = windows_at x f h p past behind b (cut_push x (Sent f) past (Sent (Content b)) behind e)

windows_by : (x : List Step) (f : Frame) → IsWithinWindows x → (past behind : List Step) (b : FrameBody) → Cut x (Received f) past (Sent (Content b)) behind → length b.payload ≤ may_send past b.stream
windows_by x f h past behind b (last a e c) = let no : true ≡ false = ap is_sent e in absurd cc
windows_by x f h past behind b (within more a e) = h past more b e

pub windows_heard : (x : List Step) (f : Frame) → IsWithinWindows x → IsWithinWindows (x ++ Received f ∷ [])
windows_heard x f h past behind b e = windows_by x f h past behind b (cut_push x (Received f) past (Sent (Content b)) behind e)

-- ---- resets of stream errors

module _ (role : Role) (limits : H2Limits) (heads : List Outcome) where
  abbrev HasReset : List Step → Frame → ErrorCode → Type 0
  HasReset behind f why = (reset : Frame) × (more : List Step) × (behind ≡ Sent reset ∷ more) × (frame_text reset ≡ reset_text (stream_of f) why)

  resets_at : (x : List Step) (s : Frame) → ResetsErrors role limits heads x → (past behind : List Step) (f : Frame) (why : ErrorCode) → Cut x (Sent s) past (Received f) behind →
      stop_of role limits heads (past ++ Received f ∷ []) ≡ None → stream_error role limits heads past f ≡ Some why → HasReset behind f why
  resets_at x s h past behind f why (last a e c) p q = let no : false ≡ true = ap is_sent e in absurd cc
  resets_at x s h past behind f why (within more a e) p q =
      let r = h past more f why e p q in
      (r.0, r.1 ++ Sent s ∷ [], a ∙ ap (λ (y : List Step). y ++ Sent s ∷ []) r.2, r.3)

  pub resets_push : (x : List Step) (s : Frame) → ResetsErrors role limits heads x → ResetsErrors role limits heads (x ++ Sent s ∷ [])
  resets_push x s h past behind f why e p q = resets_at x s h past behind f why (cut_push x (Sent s) past (Received f) behind e) p q

  -- a frame that is no stream error, or that stops the exchange
  abbrev pub NeedsNone : List Step → Frame → Type 0
  NeedsNone x f = (why : ErrorCode) → stop_of role limits heads (x ++ Received f ∷ []) ≡ None → stream_error role limits heads x f ≡ Some why → ⊥

  resets_by : (x : List Step) (g : Frame) → ResetsErrors role limits heads x → NeedsNone x g → (past behind : List Step) (f : Frame) (why : ErrorCode) → Cut x (Received g) past (Received f) behind →
      stop_of role limits heads (past ++ Received f ∷ []) ≡ None → stream_error role limits heads past f ≡ Some why → HasReset behind f why
  resets_by x g h none past behind f why (last a e c) p q =
      let same : f ≡ g = ap (frame_or f) e in
      absurd (none why
      (sym (ap (λ (y : List Step). stop_of role limits heads (y ++ Received g ∷ [])) a) ∙ sym (ap (λ (k : Frame). stop_of role limits heads (past ++ Received k ∷ [])) same) ∙ p)
      (sym (ap (λ (y : List Step). stream_error role limits heads y g) a) ∙ sym (ap (λ (k : Frame). stream_error role limits heads past k) same) ∙ q))
  resets_by x g h none past behind f why (within more a e) p q =
      let r = h past more f why e p q in
      (r.0, r.1 ++ Received g ∷ [], a ∙ ap (λ (y : List Step). y ++ Received g ∷ []) r.2, r.3)

  pub resets_heard : (x : List Step) (g : Frame) → ResetsErrors role limits heads x → NeedsNone x g → ResetsErrors role limits heads (x ++ Received g ∷ [])
  resets_heard x g h none past behind f why e p q = resets_by x g h none past behind f why (cut_push x (Received g) past (Received f) behind e) p q
