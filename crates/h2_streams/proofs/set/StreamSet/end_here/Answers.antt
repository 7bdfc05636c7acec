use Rattle.std.proofs.Common.{◌+◌, sym, ap, ◌∙◌, refl, arith}
use Rattle.std.specs.Prelude.{option_map}
use Rattle.std.specs.Vec.{vec_capacity}
use Rattle.h2_streams.specs.Set.{Set, at}
use Rattle.h2_streams.proofs.Places.{place_put, place_without}
use Rattle.h2_streams.proofs.Rising.{rises_put, rises_without}
use Rattle.h2_streams.proofs.set.StreamSet.end_here.Goals as goal

pub invariant_of-self : goal.invariant_of-self
invariant_of-self c =
    rw (c.remove.ensures.items, c.remove.ensures.capacity) (
      place_without c.self.inside.role c.self.inside.limits.streams (vec_capacity c.self.inside.live) (option_map (λ b. (b.stream, b.last)) c.self.inside.block) c.args.stream c.self.inside.live.items
          (omega (arith, c.self.inside.live.ok.0, c.self.inside.live.ok.1)) c.self.invariant.0,
      rises_without 0 (c.self.inside.highest + 1) c.args.stream c.self.inside.live.items c.self.invariant.1,
    )

pub invariant_of-self-else-found : goal.invariant_of-self-else-found
invariant_of-self-else-found c =
    rw (c.put.ensures.items, c.put.ensures.capacity) (
      place_put c.self.inside.role c.self.inside.limits.streams (vec_capacity c.self.inside.live) (option_map (λ b. (b.stream, b.last)) c.self.inside.block) c.args.stream c.in-Some.found _ c.self.inside.live.items
          (ap (λ (s : Set). at c.args.stream s) c.self.view_is ∙ sym c.met.ensures ∙ c.in-Some.is) refl refl c.self.invariant.0,
      rises_put (c.self.inside.highest + 1) c.args.stream c.in-Some.found _ c.self.inside.live.items (ap (λ (s : Set). at c.args.stream s) c.self.view_is ∙ sym c.met.ensures ∙ c.in-Some.is) refl c.self.invariant.1,
    )
