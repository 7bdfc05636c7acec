-- What the one-thread server answers.
use Rattle.std.proofs.Common.{◌≡◌, ℕ, Bool, true, false, List, Some, None, refl}
use Rattle.std.specs.Prelude.{◌&&◌}
use Rattle.table_model.specs.declared.command.Command.{Command}
use Rattle.table_model.specs.declared.command.Config.{Config}
use Rattle.table_model.specs.declared.reply.Reply.TheVariants as reply
use Rattle.table_model.specs.Event.{Event}
use Rattle.table_model.specs.Sessions.{is_live}
use Rattle.table_model.specs.Reply.{reply_to, is_halted, is_stoppable, caller, answer}

module _ (config : Config) (past : List Event) (command : Command) where
  pub reply_stopped : (is_stoppable command && is_halted past) ≡ true → reply_to config past command ≡ reply.Stopped
  unfolding reply_to
  reply_stopped stops = rw stops refl

  -- where no Halt stops it
  module _ (goes : (is_stoppable command && is_halted past) ≡ false) where
    pub reply_gone : (session : ℕ) → caller command ≡ Some session → is_live past session ≡ false → reply_to config past command ≡ reply.Gone
    unfolding reply_to
    reply_gone session called gone = rw (goes, called, gone) refl

    pub reply_live : (session : ℕ) → caller command ≡ Some session → is_live past session ≡ true → reply_to config past command ≡ answer config past command
    unfolding reply_to
    reply_live session called alive = rw (goes, called, alive) refl

    pub reply_free : caller command ≡ None → reply_to config past command ≡ answer config past command
    unfolding reply_to
    reply_free called = rw (goes, called) refl
