use Rattle.std.proofs.Common.{ap, subst, List, ℕ, [], ◌∙◌}
use Rattle.hpack_tables.specs.declared.encoder.Style.{Style}
use Rattle.hpack_tables.specs.Writing.{fresh}
use Rattle.h2_frames.specs.Reader.{Reader}
use Rattle.h2_frames.specs.Stream.{Stands}
use Rattle.h2_conn.proofs.Beginning.{begins_new}
use Rattle.h2_conn.proofs.conn.H2Conn.new.Goals as goal

pub returns : goal.returns
returns c =
    begins_new c.args.role c.args.limits c.in_ok-new.field-0 c.first_place.result c.in_ok-first_set.field-0 c.in_ok-new-2.field-0 c.in_ok-new-3.field-0 c.in_ok-first.field-0.items c.new-5.result
    (subst (λ (due : List ℕ). Stands due c.in_ok-new.field-0 [] []) c.is_preface_due.ensures c.in_ok-new.ensures.stands)
    (ap (λ (x : Reader). x.refusal) c.in_ok-new.ensures.fresh) c.first_place.ensures c.in_ok-new-2.ensures c.in_ok-first_set.ensures.stands c.in_ok-first_set.ensures.exact
    (c.in_ok-new-3.ensures ∙ ap (λ (style : Style). fresh style) c.style_of.ensures) c.in_ok-first.ensures c.new-5.ensures
