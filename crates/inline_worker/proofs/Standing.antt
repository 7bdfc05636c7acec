-- A table's history, one command on.
use Rattle.std.proofs.Common.{inl, inr, ◌≡◌, Bool, true, false, cond, List, ◌∷◌, refl, sym, ap, subst, ◌∙◌}
use Rattle.table_model.specs.declared.command.Command.{Command}
use Rattle.table_model.specs.declared.command.Config.{Config}
use Rattle.table_model.specs.declared.reply.Reply.{Reply}
use Rattle.table_model.specs.declared.reply.Reply.TheVariants as reply
use Rattle.table_model.specs.Event.{Event, events, is_no_memory}
use Rattle.table_model.specs.Legal.{IsAnswer, IsLawful, Legal, takes_memory}
use Rattle.table_model.specs.Reply.{reply_to}
use Rattle.table_model.proofs.Lawful.{lawful_events}
use Rattle.rib_core.specs.Core.{Core}
use Rattle.rib_core.specs.Stands.{StandsFor, Acts}
use Rattle.inline_worker.specs.CoreAt.{CoreAt}
use Rattle.inline_worker.specs.Turns.{next_event}

has_memory : (r : Reply) (c : Command) → (r ≡ reply.NoMemory → takes_memory c ≡ true) → takes_memory c ≡ false → is_no_memory r ≡ false
has_memory reply.NoMemory c alone none = let no_way : true ≡ false = sym (alone refl) ∙ none in absurd cc
has_memory _ c alone none = refl

answer_is : (config : Config) (past : List Event) (command : Command) (given : Reply) → is_no_memory given ≡ false → IsAnswer config past (record { command = command; reply = given }) → given ≡ reply_to config past command
answer_is config past command given has (inl e) = e
answer_is config past command given has (inr e) = let both : true ≡ false = sym (ap is_no_memory e.0) ∙ has in absurd cc

replied : (config : Config) (new : Core) (past : List Event) (command : Command) (given : Reply) → new.config ≡ config → events past ≡ past → is_no_memory given ≡ false
    → StandsFor new (record { command = command; reply = given } ∷ past) → given ≡ reply_to config past command
replied config new past command given same all has stands =
    let legal : IsAnswer new.config (events past) (record { command = command; reply = given }) = stands.legal.0 in
    answer_is config past command given has (subst (λ (c : Config). IsAnswer c past (record { command = command; reply = given })) same (subst (λ (p : List Event). IsAnswer new.config p (record { command = command; reply = given })) all legal))

events_more : (past : List Event) (e : Event) → events past ≡ past → is_no_memory e.reply ≡ false → events (e ∷ past) ≡ e ∷ past
unfolding events
events_more past e all has = ap (λ (b : Bool). cond b (events past) (e ∷ events past)) has ∙ ap (λ (p : List Event). e ∷ p) all

-- a command that takes no memory
pub acted : (config : Config) (old new : Core) (past : List Event) (command : Command) (given : Reply) → CoreAt config old past → new.config ≡ old.config
    → (given ≡ reply.NoMemory → takes_memory command ≡ true) → takes_memory command ≡ false
    → Acts old command given new → CoreAt config new (next_event config past command ∷ past) × (given ≡ reply_to config past command)
acted config old new past command given stood same alone none acts =
    let has = has_memory given command alone none in
    let now = acts past stood.stands in
    let config_is = same ∙ stood.config_is in
    let is = replied config new past command given config_is stood.all has now in
    let e : record { command = command; reply = given } ≡ next_event config past command = ap (λ (r : Reply). record { command = command; reply = r }) is in (
      record {
        stands = subst (λ (x : Event). StandsFor new (x ∷ past)) e now;
        all = events_more past (next_event config past command) stood.all (ap is_no_memory (sym is) ∙ has);
        config_is = config_is;
      },
      is,
    )

pub lawful_at : (config : Config) (core : Core) (past : List Event) → CoreAt config core past → IsLawful config past
lawful_at config core past stood = subst (IsLawful config) stood.all (lawful_events config past (subst (λ (c : Config). Legal c past) stood.config_is stood.stands.legal))
