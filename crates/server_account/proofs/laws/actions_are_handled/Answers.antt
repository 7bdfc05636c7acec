use Rattle.server_account.proofs.Hears.{brought_collects, brought_hears, handled_collects, handled_continues, handled_declines, handled_drops, handled_hears}
use Rattle.server_account.proofs.laws.actions_are_handled.Goals as goal

pub returns : goal.returns
returns c = λ s t calls new actions own did stream. record {
  brings = λ call items h k on none. brought_hears s t calls new actions own h did stream call items k on none;
  gathers = λ items h k. brought_collects s t calls new actions own h did stream items k;
  hears = λ call items h k on none quiet. handled_hears s t calls new actions own h did stream call items k on none quiet;
  collects = λ items h k quiet. handled_collects s t calls new actions own h did stream items k quiet;
  continues = λ items h k. handled_continues s t calls new actions own h stream items k;
  drops = λ h k quiet. handled_drops s t calls new actions own did stream h k quiet;
  declines = λ answer h k quiet closed. handled_declines s t calls new actions own did stream answer h k quiet closed;
}
