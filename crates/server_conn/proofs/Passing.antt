-- A pass that made entries is one of its lock still, and sound.
use Rattle.std.proofs.Common.{◌≡◌, ◌++◌, Bool, true, false, List, ap, subst, sym, ◌∙◌}
use Rattle.table_lock.specs.Passes.{IsPassOf, IsSound, LockView, PassView}
use Rattle.rib_core.specs.Recorded.{IsLawful}
use Rattle.table_model.specs.declared.command.Command.{Command}
use Rattle.table_model.specs.declared.command.Config.{Config}
use Rattle.table_model.specs.declared.reply.Reply.{Reply}
use Rattle.table_model.specs.Event.{Event}
use Rattle.server_turns.specs.Making.{Makes}

module _ (config : Config) (p q : PassView Command Reply Config) (did : List Event) where
  pub makes_pass : (lock : LockView Config) (spent : Bool) → IsPassOf lock p → Makes config spent p q did → IsPassOf lock q
  makes_pass lock false h made = (made.same.0 ∙ h.0, made.same.1 ∙ h.1)
  makes_pass lock true h made = (
    ap (λ (x : PassView Command Reply Config). x.table) made.2 ∙ (made.1.same.0 ∙ h.0),
    ap (λ (x : PassView Command Reply Config). x.setup) made.2 ∙ (made.1.same.1 ∙ h.1),
  )

  pub makes_sound : (spent : Bool) → Makes config spent p q did → IsSound IsLawful config q
  makes_sound false made = made.sound
  makes_sound true made =
      subst (λ (x : PassView Command Reply Config). IsSound IsLawful config x) (sym made.2)
      (record { legal = made.1.sound.legal; own = made.1.sound.own })
