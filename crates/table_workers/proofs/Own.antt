-- Between two calls of a pass stands none of its own.
use Rattle.std.proofs.Common.{◌≡◌, ℕ, ◌+◌, Bool, true, false, [], ◌∷◌, ◌++◌, length, refl, sym, ap, ◌∙◌, subst, inl, inr, ◌⊎◌, append_assoc, arith, length-append}
use Rattle.std.specs.Prelude.{cond, drop, ◌==◌}
use Rattle.std.proofs.lemmas.Bool.Decides.{nat_tests}
use Rattle.table_model.specs.declared.command.Command.{Command}
use Rattle.table_model.specs.declared.command.Config.{Config}
use Rattle.table_model.specs.declared.reply.Reply.{Reply}
use Rattle.table_lock.specs.declared.machine.Entry as call
use Rattle.table_lock.specs.Lock.{calls_of, entry}
use Rattle.table_lock.specs.Passes.{PassView, IsSound, IsCalled, IsLearned}
use Rattle.rib_core.specs.Recorded.{IsLawful}
use Rattle.table_workers.specs.Working.{Calls}
use Rattle.table_workers.proofs.Chains.{NoneOwn}

none_step : (me : ℕ) (c : call.Entry Command Reply) (calls : Calls) → (length (calls_of me calls) ≡ 0 → NoneOwn me calls) → (b : Bool) → (c.by == me) ≡ b
    → length (cond b (c ∷ calls_of me calls) (calls_of me calls)) ≡ 0 → NoneOwn me (c ∷ calls)
none_step me c calls go true is h = absurd (omega arith)
none_step me c calls go false is h = ((λ same. absurd (grind (arith, nat_tests))), go h)

none_own : (me : ℕ) (calls : Calls) → length (calls_of me calls) ≡ 0 → NoneOwn me calls
none_own me [] h = tt
none_own me (c ∷ calls) h = none_step me c calls (none_own me calls) (c.by == me) refl h

calls_step : (me : ℕ) (x : call.Entry Command Reply) (whole xs ys : Calls) → calls_of me whole ≡ calls_of me xs ++ calls_of me ys → (b : Bool)
    → cond b (x ∷ calls_of me whole) (calls_of me whole) ≡ cond b (x ∷ calls_of me xs) (calls_of me xs) ++ calls_of me ys
calls_step me x whole xs ys h true = ap (λ (l : Calls). x ∷ l) h
calls_step me x whole xs ys h false = h

calls_append : (me : ℕ) (xs ys : Calls) → calls_of me (xs ++ ys) ≡ calls_of me xs ++ calls_of me ys
calls_append me [] ys = refl
calls_append me (x ∷ xs) ys = calls_step me x (xs ++ ys) xs ys (calls_append me xs ys) (x.by == me)

own_one : (me : ℕ) (c : Command) (r : Reply) → length (calls_of me (entry me c r ∷ [])) ≡ 1
own_one me c r = by_own (me == me) (grind (arith, nat_tests))
  where
    by_own : (b : Bool) → b ≡ true → length (cond b (entry me c r ∷ []) []) ≡ 1
    by_own true is = refl
    by_own false is = cc

module _ (config : Config) where
  pub own_between : (p q : PassView Command Reply Config) (c : Command) (r : Reply) → IsSound IsLawful config p → (h : IsCalled IsLawful config p q c r) → NoneOwn p.number h.between
  own_between p q c r sound h =
      let me = p.number in let e = entry me c r in
      let all : calls_of me q.seen ≡ (calls_of me p.seen ++ calls_of me h.between) ++ calls_of me (e ∷ []) =
      ap (calls_of me) h.history ∙ (calls_append me (p.seen ++ h.between) (e ∷ []) ∙ ap (λ (l : Calls). l ++ calls_of me (e ∷ [])) (calls_append me p.seen h.between)) in
      let count : length (calls_of me q.seen) ≡ length p.mine + 1 = ap length h.own ∙ (ap length h.mine ∙ length-append p.mine (e ∷ [])) in
      let parts : length (calls_of me q.seen) ≡ length (calls_of me p.seen) + length (calls_of me h.between) + 1 =
      ap length all ∙ (length-append (calls_of me p.seen ++ calls_of me h.between) (calls_of me (e ∷ [])) ∙ omega (arith, own_one me c r, length-append (calls_of me p.seen) (calls_of me h.between))) in
      none_own me h.between (omega (arith, count, parts, ap length sound.own))

  -- what came since a pass's call
  pub since : (p q : PassView Command Reply Config) (c : Command) (r : Reply) (h : IsCalled IsLawful config p q c r) → q.seen ≡ p.seen ++ (h.between ++ entry p.number c r ∷ [])
  since p q c r h = h.history ∙ append_assoc p.seen h.between (entry p.number c r ∷ [])

  pub number_is : (p q : PassView Command Reply Config) (c : Command) (r : Reply) → IsCalled IsLawful config p q c r → q.number ≡ p.number
  number_is p q c r h = ap (λ (k : PassView Command Reply Config). k.number) h.same

pub drop_front : (xs ys : Calls) → drop (length xs) (xs ++ ys) ≡ ys
drop_front [] ys = refl
drop_front (x ∷ xs) ys = drop_front xs ys

module _ (config : Config) where
  -- a pass that was told what it had seen
  seen_same : (p q : PassView Command Reply Config) (told : Calls) → told ≡ p.seen → (q.seen ≡ p.seen) ⊎ (q.seen ≡ told) → q.seen ≡ p.seen
  seen_same p q told is (inl same) = same
  seen_same p q told is (inr same) = same ∙ is

  pub learned_same : (first p q : PassView Command Reply Config) (told : Calls) → p ≡ first → told ≡ first.seen → IsLearned IsLawful config p told q → q ≡ record p { seen = q.seen } → q ≡ first
  learned_same first p q told from is learned same =
      same ∙ (ap (λ (l : Calls). record p { seen = l }) (seen_same p q told (is ∙ sym (ap (λ (k : PassView Command Reply Config). k.seen) from)) learned.one_of) ∙ from)

  pub learned_sound : (p q : PassView Command Reply Config) (told : Calls) → IsLearned IsLawful config p told q → q ≡ record p { seen = q.seen } → IsSound IsLawful config q
  learned_sound p q told learned same = record {
    legal = learned.legal;
    own = subst (λ (n : ℕ). calls_of n q.seen ≡ q.mine) (sym (ap (λ (k : PassView Command Reply Config). k.number) same)) learned.own;
  }
