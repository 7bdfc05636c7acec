-- Many calls of a pass.
use Rattle.std.proofs.Common.{◌≡◌, ◌⊎◌, ℕ, ◌<◌, List, [], ◌∷◌, ◌++◌, sym, refl, ap, ◌∙◌, subst, ⊎_elim, inl, inr, append_assoc, append-nil}
use Rattle.std.specs.Prelude.{◌^◌}
use Rattle.table_lock.specs.declared.machine.Entry.{Entry}
use Rattle.table_lock.specs.Lock.{calls_of, entry}
use Rattle.table_lock.specs.Passes.{PassView, IsSound, IsExtended, IsCalled}
use Rattle.table_lock.proofs.Lists.{prefix_refl, prefix_trans}

module _ {C R G : Type 0} (lawful : G → List (Entry C R) → Type 0) (setup : G) where
  -- the ticket of before, or one that was drawn
  ticket_on : (p q r : ℕ) → (q ≡ p) ⊎ (q < 2 ^ 62) → (r ≡ q) ⊎ (r < 2 ^ 62) → (r ≡ p) ⊎ (r < 2 ^ 62)
  ticket_on p q r a b = ⊎_elim
      (λ (t : r ≡ q). ⊎_elim (λ (u : q ≡ p). inl (t ∙ u)) (λ (u : q < 2 ^ 62). inr (subst (λ (n : ℕ). n < 2 ^ 62) (sym t) u)) a)
      (λ (t : r < 2 ^ 62). inr t)
      b

  -- no call
  pub extended_none : (p : PassView C R G) → IsSound lawful setup p → IsExtended lawful setup p p []
  extended_none p s = record { seen = prefix_refl p.seen; mine = sym (append-nil p.mine); sound = s; ticket = inl refl; same = (refl, refl, refl) }

  -- some calls, and then others
  pub extended_more : (p q r : PassView C R G) (xs ys : List (Entry C R)) → IsExtended lawful setup p q xs → IsExtended lawful setup q r ys → IsExtended lawful setup p r (xs ++ ys)
  extended_more p q r xs ys a b = record {
    seen = prefix_trans p.seen q.seen r.seen a.seen b.seen;
    mine = b.mine ∙ (ap (λ (l : List (Entry C R)). l ++ ys) a.mine ∙ append_assoc p.mine xs ys);
    sound = b.sound;
    ticket = ticket_on p.ticket q.ticket r.ticket a.ticket b.ticket;
    same = (b.same.0 ∙ a.same.0, b.same.1 ∙ a.same.1, b.same.2 ∙ a.same.2);
  }

  -- one call
  pub extended_call : (p q : PassView C R G) (c : C) (a : R) → IsCalled lawful setup p q c a → IsExtended lawful setup p q (entry p.number c a ∷ [])
  extended_call p q c a h = record {
    seen = (h.between ++ entry p.number c a ∷ [], sym (append_assoc p.seen h.between (entry p.number c a ∷ [])) ∙ sym h.history);
    mine = h.mine;
    sound = record { legal = h.legal; own = ap (λ (k : PassView C R G). calls_of k.number q.seen) h.same ∙ h.own };
    ticket = inr h.below;
    same = (ap (λ (k : PassView C R G). k.table) h.same, ap (λ (k : PassView C R G). k.setup) h.same, ap (λ (k : PassView C R G). k.number) h.same);
  }
