-- The refusal of a stream's bytes lasts.
use Rattle.std.proofs.Common.{◌≡◌, ◌⊎◌, ℕ, zero, suc, ◌+◌, ◌≤◌, Bool, ◌||◌, true, false, List, [], ◌∷◌, ◌++◌, length, drop, refl, sym, ap, subst, ◌∙◌, inl, inr, arith}
use Rattle.std.proofs.lemmas.List.{append-nil, length-drop}
use Rattle.grpc_framing.specs.declared.front.Front.{Front}
use Rattle.grpc_framing.specs.declared.front.Front.TheVariants.{Message, NeedMore, Compressed, TooLong}
use Rattle.grpc_framing.specs.Framing.{Messages, front_at, messages_of}
use Rattle.grpc_framing.proofs.Fronts.{front_at-len, front_at-nil}
use Rattle.grpc_framing.proofs.Streams.{messages_of-at, messages_of-message, messages_of-compressed, messages_of-too_long}
use Rattle.h2_exchange.specs.Calls.{cut, is_refused, is_refused_cut}

abbrev is_bad : Front → Bool
is_bad Compressed = true
is_bad TooLong = true
is_bad NeedMore = false
is_bad (Message n) = false

abbrev Stays : ℕ → List ℕ → List ℕ → Type 0
Stays limit old more = is_bad (messages_of limit old).ending ≡ true → is_bad (messages_of limit (old ++ more)).ending ≡ true

at_front : (n limit : ℕ) (old more : List ℕ) (f : Front) → front_at limit old ≡ f → length old ≤ suc n → ((rest : List ℕ) → length rest ≤ n → Stays limit rest more) → Stays limit old more
at_front n limit old more Compressed e le go h = ap (λ (m : Messages). is_bad m.ending) (messages_of-compressed limit old more e)
at_front n limit old more TooLong e le go h = ap (λ (m : Messages). is_bad m.ending) (messages_of-too_long limit old more e)
at_front n limit old more NeedMore e le go h =
    let k : false ≡ true = sym (ap (λ (m : Messages). is_bad m.ending) (messages_of-at limit old NeedMore e)) ∙ h in absurd cc
at_front n limit old more (Message k) e le go h =
    ap (λ (m : Messages). is_bad m.ending) (messages_of-message limit k old more e)
    ∙ go (drop (5 + k) old) (omega (arith, le, front_at-len limit old k e, length-drop (5 + k) old))
    (sym (ap (λ (m : Messages). is_bad m.ending) (messages_of-at limit old (Message k) e)) ∙ h)

bad_stays : (n limit : ℕ) (old more : List ℕ) → length old ≤ suc n → Stays limit old more
bad_stays zero limit old more le h = at_front zero limit old more (front_at limit old) refl le (λ rest short. nothing rest short) h
  where
    nothing : (rest : List ℕ) → length rest ≤ zero → Stays limit rest more
    nothing [] short e = let k : false ≡ true = sym (ap (λ (m : Messages). is_bad m.ending) (messages_of-at limit [] NeedMore (front_at-nil limit))) ∙ e in absurd cc
    nothing (b ∷ rest) short e = absurd (omega (arith, short))
bad_stays (suc n) limit old more le h = at_front (suc n) limit old more (front_at limit old) refl le (λ rest short. bad_stays n limit rest more short) h

bad_is : (f : Front) (rest : List ℕ) → is_refused false f rest ≡ is_bad f
bad_is Compressed rest = refl
bad_is TooLong rest = refl
bad_is NeedMore [] = refl
bad_is NeedMore (b ∷ rest) = refl
bad_is (Message n) [] = refl
bad_is (Message n) (b ∷ rest) = refl

ended_too : (a b : Bool) (f : Front) (rest : List ℕ) → is_refused a f rest ≡ true → is_refused (a || b) f rest ≡ true
ended_too a b Compressed rest e = refl
ended_too a b TooLong rest e = refl
ended_too a b NeedMore [] e = absurd cc
ended_too true b NeedMore (x ∷ rest) e = refl
ended_too false b NeedMore (x ∷ rest) e = absurd cc
ended_too a b (Message n) [] e = absurd cc
ended_too true b (Message n) (x ∷ rest) e = refl
ended_too false b (Message n) (x ∷ rest) e = absurd cc

abbrev refused : Bool → List ℕ → Bool
refused ended bytes = is_refused_cut ended (cut bytes)

more_too : (old more : List ℕ) → refused false old ≡ true → refused false (old ++ more) ≡ true
more_too old more e =
    bad_is (cut (old ++ more)).ending (cut (old ++ more)).rest
    ∙ bad_stays (length old) 4194304 old more (omega arith) (sym (bad_is (cut old).ending (cut old).rest) ∙ e)

-- what is refused stays so, where no bytes come behind the end
pub refused_stays : (a b : Bool) (old more : List ℕ) → (more ≡ []) ⊎ (a ≡ false) → is_refused_cut a (cut old) ≡ true → is_refused_cut (a || b) (cut (old ++ more)) ≡ true
refused_stays a b old more (inl none) e =
    subst (λ (l : List ℕ). refused (a || b) (old ++ l) ≡ true) (sym none) (subst (λ (l : List ℕ). refused (a || b) l ≡ true) (sym (append-nil old)) (ended_too a b (cut old).ending (cut old).rest e))
refused_stays false b old more (inr open_still) e = ended_too false b (cut (old ++ more)).ending (cut (old ++ more)).rest (more_too old more e)
refused_stays true b old more (inr open_still) e = absurd cc
