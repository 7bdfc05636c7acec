-- Whatever outcomes are known of header blocks, an exchange has one stop and one list of events.
use Rattle.std.proofs.Common.{◌≡◌, ◌⊎◌, ℕ, List, [], ◌∷◌, Result, Ok, Err, refl, sym, ap, subst, ◌∙◌, inl, inr}
use Rattle.std.proofs.lemmas.List.{append-nil}
use Rattle.hpack_tables.specs.declared.fault.HpackFault.{HpackFault}
use Rattle.hpack_tables.specs.declared.field.Field.{Field}
use Rattle.hpack_tables.specs.Reading.{State}
use Rattle.hpack_tables.proofs.OneReading.{one_reading}
use Rattle.h2_exchange.specs.declared.limits.H2Limits.{H2Limits}
use Rattle.h2_exchange.specs.declared.role.Role.{Role}
use Rattle.h2_exchange.specs.Blocks.{Block, blocks}
use Rattle.h2_exchange.specs.Content.{Outcome}
use Rattle.h2_exchange.specs.Exchange.{Step, received}
use Rattle.h2_exchange.specs.Laws.{ExchangeIsDetermined}
use Rattle.h2_exchange.specs.Outcomes.{ReadFirst, AreEnough}
use Rattle.h2_exchange.specs.Sending.{IsPrefix}
use Rattle.h2_exchange.specs.Stops.{stop_of, events}
use Rattle.h2_exchange.proofs.Heads.{later_blocks_change_nothing}

abbrev begun : List Field → ℕ → State
begun entries max = record { entries = entries; max = max; fields = [] }

-- one of two lists goes on with the other
abbrev OneGoesOn : List Outcome → List Outcome → Type 0
OneGoesOn h g = IsPrefix h g ⊎ IsPrefix g h

goes_on_behind : (o u : Outcome) (h g : List Outcome) → o ≡ u → OneGoesOn h g → OneGoesOn (o ∷ h) (u ∷ g)
goes_on_behind o u h g e (inl f) = inl (f.0, both e f.1)
  where
    both : {xs ys : List Outcome} {a b : Outcome} → a ≡ b → ys ≡ xs → b ∷ ys ≡ a ∷ xs
    both p q = cc
goes_on_behind o u h g e (inr f) = inr (f.0, both e f.1)
  where
    both : {xs ys : List Outcome} {a b : Outcome} → a ≡ b → ys ≡ xs → a ∷ ys ≡ b ∷ xs
    both p q = cc

same_state : (s t : State) (r u : Result State HpackFault) → r ≡ Ok s → u ≡ Ok t → r ≡ u → s ≡ t
same_state s t r u p q e = cc

same_fault : (e d : HpackFault) (r u : Result State HpackFault) → r ≡ Err e → u ≡ Err d → r ≡ u → e ≡ d
same_fault e d r u p q same = cc

no_fault : (s : State) (e : HpackFault) (r u : Result State HpackFault) → r ≡ Ok s → u ≡ Err e → r ≡ u → ⊥
no_fault s e r u p q same = cc

one_list : (entries : List Field) (max : ℕ) (bs : List Block) (h g : List Outcome) → ReadFirst entries max bs h → ReadFirst entries max bs g → OneGoesOn h g
one_list entries max bs [] g p q = inl (g, refl)
one_list entries max bs (o ∷ h) [] p q = inr (o ∷ h, refl)
one_list entries max [] (o ∷ h) (u ∷ g) p q = absurd p
one_list entries max (b ∷ bs) (Ok fs ∷ h) (Ok gs ∷ g) (after, one, is, others) (last, two, was, rest) =
    let same : after ≡ last = same_state after last (Ok after) (Ok last) refl refl (one_reading 4096 (begun entries max) b.text (Ok after) (Ok last) one two) in
    goes_on_behind (Ok fs) (Ok gs) h g (ap (λ (l : List Field). Ok l) (sym is ∙ ap (λ (s : State). s.fields) same ∙ was))
    (one_list after.entries after.max bs h g others (subst (λ (s : State). ReadFirst s.entries s.max bs g) (sym same) rest))
one_list entries max (b ∷ bs) (Ok fs ∷ h) (Err d ∷ g) (after, one, is, others) (two, none) = absurd (no_fault after d (Ok after) (Err d) refl refl (one_reading 4096 (begun entries max) b.text (Ok after) (Err d) one two))
one_list entries max (b ∷ bs) (Err e ∷ h) (Ok gs ∷ g) (one, none) (last, two, was, rest) = absurd (no_fault last e (Ok last) (Err e) refl refl (one_reading 4096 (begun entries max) b.text (Ok last) (Err e) two one))
one_list entries max (b ∷ bs) (Err e ∷ h) (Err d ∷ g) (one, none) (two, empty) =
    let same : e ≡ d = same_fault e d (Err e) (Err d) refl refl (one_reading 4096 (begun entries max) b.text (Err e) (Err d) one two) in
    goes_on_behind (Err e) (Err d) h g (ap (λ (f : HpackFault). Err f) same) (inl ([], empty ∙ sym none ∙ sym (append-nil h)))

module _ (role : Role) (limits : H2Limits) (x : List Step) where
  abbrev Same : List Outcome → List Outcome → Type 0
  Same h g = (stop_of role limits h x ≡ stop_of role limits g x) × (events role limits h x ≡ events role limits g x)

  by_front : (h g : List Outcome) → AreEnough role limits h x → IsPrefix h g → Same g h
  by_front h g k (more, e) = subst (λ (l : List Outcome). Same l h) (sym e) (later_blocks_change_nothing.looked_at role limits h more x k)

  by_either : (h g : List Outcome) → AreEnough role limits h x → AreEnough role limits g x → OneGoesOn h g → Same h g
  by_either h g k l (inl f) = let r = by_front h g k f in (sym r.0, sym r.1)
  by_either h g k l (inr f) = by_front g h l f

pub exchange_is_determined : ExchangeIsDetermined
exchange_is_determined role limits heads others x k l = by_either role limits x heads others k.enough l.enough (one_list [] 4096 (blocks (received x)) heads others k.read l.read)
