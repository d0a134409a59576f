use Rattle.register.proofs.Served.{related-of}
use Rattle.register.proofs.serve.about.Goals as goal

pub lay-part-requires : goal.lay-part-requires
lay-part-requires c = record { sound_description = c.requires.0; known_relation = c.requires.1 }

pub invariant_of-result : goal.invariant_of-result
invariant_of-result c = rw (c.lay-part.ensures.described, c.lay-part.ensures.of_relation) (record { ordered = c.args.levels.ordered; related = related-of _ _ c.requires.0 c.requires.1 (rw (c.lay-part.ensures.described, c.lay-part.ensures.of_relation) at c.lay-part.result.laid.columns) })
