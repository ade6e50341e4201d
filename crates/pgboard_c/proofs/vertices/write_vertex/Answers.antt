use Rattle.pgboard_c.proofs.Common.{rules, refl}
use Rattle.pgboard_c.specs.Vertices.{IsVertexRead, vertex_lists}
use Rattle.pgboard_c.proofs.vertices.write_vertex.Goals as goal

pub returns : goal.returns
returns c =
    let s = c.args.session.now in
    let a = c.args in
    let vertex : IsVertexRead s.board a.vertex (vertex_lists a.into.now a.successors.now) _ = record {
      below = search rules;
      id = search rules;
      priority = search rules;
      owner = search rules;
      count = search rules;
      row = search rules;
      fit = search rules;
    } in
    (s, s, refl, refl, (refl, vertex))
