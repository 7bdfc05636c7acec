-- A pass behind a call of the engine is one of its lock still, and knows a lawful history.
use Rattle.std.proofs.Common.{◌≡◌, Bool, true, is_some, List, Option, Some, None, IsSome, ap, sym, ◌∙◌, subst}
use Rattle.table_lock.specs.declared.machine.Entry.{Entry}
use Rattle.table_lock.specs.Lock.{calls_of}
use Rattle.table_lock.specs.Passes.{LockView, PassView, IsLearned, IsPassOf, IsSound}
use Rattle.table_model.specs.declared.command.Command.{Command}
use Rattle.table_model.specs.declared.reply.Reply.{Reply}
use Rattle.table_model.specs.Event.{Event}
use Rattle.session_engine.specs.Stands.{IsSpentBehind, MakesEntries}

module _ {G : Type 0} (lawful : G → List (Entry Command Reply) → Type 0) (l : LockView G) (p q : PassView Command Reply G) (did : List Event) (is : IsPassOf l p) where
  pub pass_after : MakesEntries lawful l.setup p q did → IsPassOf l q
  pass_after h = (h.same.0 ∙ is.0, h.same.1 ∙ is.1)

  pub sound_after : MakesEntries lawful l.setup p q did → IsSound lawful l.setup q
  sound_after h = h.sound

  pub pass_spent : IsSpentBehind lawful l.setup p q did → IsPassOf l q
  pass_spent h = (ap (λ (k : PassView Command Reply G). k.table) h.2 ∙ (h.1.same.0 ∙ is.0), ap (λ (k : PassView Command Reply G). k.setup) h.2 ∙ (h.1.same.1 ∙ is.1))

  pub sound_spent : IsSpentBehind lawful l.setup p q did → IsSound lawful l.setup q
  sound_spent h = subst (λ (k : PassView Command Reply G). IsSound lawful l.setup k) (sym h.2) (record { legal = h.1.sound.legal; own = h.1.sound.own })

-- a pass that learned something
pub learned_sound : {G : Type 0} (lawful : G → List (Entry Command Reply) → Type 0) (setup : G) (p q : PassView Command Reply G) (told : List (Entry Command Reply)) → IsLearned lawful setup p told q → q ≡ record p { seen = q.seen }
    → IsSound lawful setup q
learned_sound {G} lawful setup p q told h e = record { legal = h.legal; own = ap (λ (k : PassView Command Reply G). calls_of k.number q.seen) e ∙ h.own }

pub has_some : {X : Type 0} (o : Option X) (b : Bool) → b ≡ is_some o → b ≡ true → IsSome o
has_some None b e t = absurd (cc (sym e ∙ t))
has_some (Some x) b e t = sym e ∙ t
