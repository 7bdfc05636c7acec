-- What is said of an answer.
use Rattle.std.proofs.Common.{ℕ, Ok, Err, Result, inl, inr}
use Rattle.std.specs.Prelude.{IfOk, OnErr, OnOk}
use Rattle.rig_io.specs.Fault.{HasCause, StaysUnless}

module _ {A E : Type 0} where
  pub on_ok : {P : Type 0} (r : Result A E) → P → OnOk r P
  on_ok (Ok x) p = p
  on_ok (Err e) p = tt

  pub ok_map : {P Q : A → Type 0} (r : Result A E) → ((x : A) → P x → Q x) → IfOk r P → IfOk r Q
  ok_map (Ok x) f p = f x p
  ok_map (Err e) f p = tt

  pub err_pair : (P Q : Type 0) (r : Result A E) → P → OnErr r Q → OnErr r (P × Q)
  err_pair P Q (Ok x) p q = tt
  err_pair P Q (Err e) p q = (p, q)

pub cause_never : (before now : ℕ) (was is : Type 0) → HasCause before now was → (is → ⊥) → HasCause before now is
cause_never before now was is h never = record { later = h.later; rose = λ x. absurd (never x) }

pub stays_never : (before now : ℕ) (was is : Type 0) → StaysUnless before now was → (was → ⊥) → StaysUnless before now is
stays_never before now was is (inl x) never = absurd (never x)
stays_never before now was is (inr e) never = inr e
