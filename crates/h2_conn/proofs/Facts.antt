-- What a test of a result says.
use Rattle.std.proofs.Common.{◌≡◌, Bool, true, false, Result, Ok, Err, refl, sym, ◌∙◌}
use Rattle.std.specs.Prelude.{is_err, not, IfOk, OnErr, OnOk}

pub ok_holds : {A E : Type 0} (P : Type 0) (failed : Bool) (r : Result A E) → failed ≡ is_err r → failed ≡ false → OnOk r P → P
ok_holds P failed (Ok x) e f p = p
ok_holds P failed (Err x) e f p = absurd (let t : true ≡ false = sym e ∙ f in cc)

pub err_holds : {A E : Type 0} (P : Type 0) (failed : Bool) (r : Result A E) → failed ≡ is_err r → failed ≡ true → OnErr r P → P
err_holds P failed (Ok x) e f p = absurd (let t : false ≡ true = sym e ∙ f in cc)
err_holds P failed (Err x) e f p = p

pub not_true : (b : Bool) → not b ≡ true → b ≡ false
not_true true e = absurd (let t : false ≡ true = e in cc)
not_true false e = refl

pub not_false : (b : Bool) → not b ≡ false → b ≡ true
not_false true e = refl
not_false false e = absurd (let t : true ≡ false = e in cc)

pub if_ok : {A E : Type 0} (P : Type 0) (r : Result A E) (x : A) → r ≡ Ok x → IfOk r (λ _. P) → P
if_ok P (Ok y) x e p = p
if_ok P (Err y) x e p = absurd (let t : Err y ≡ Ok x = e in cc)
