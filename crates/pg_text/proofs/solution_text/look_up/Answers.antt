use Rattle.pg_text.proofs.Common.{◌≡◌, ℕ, ◌<◌, false, length, refl, rules, Option, Some, None, IfSome, MatchResult, Graph, id_of, Stranger, is_id, IsNamed}
use Rattle.pg_text.proofs.Common.{false_from_ne_true}
use Rattle.std.specs.Prelude.{IfNone}
use Rattle.std.specs.Option.{ok_or}
use Rattle.pg_text.proofs.solution_text.Identifiers.{named_at}
use Rattle.pg_text.proofs.solution_text.look_up.Goals as goal

either : (g : Graph) (id : ℕ) (o : Option ℕ) → IfSome o (λ v. (v < length g) × (id_of g v ≡ id)) → IfNone o ((v : ℕ) → v < length g → id_of g v ≡ id → ⊥)
    → MatchResult (ok_or o (Stranger id)) (λ v. IsNamed g id v) (λ e. (e ≡ Stranger id) × (is_id g id ≡ false))
either g id None found missing = (refl, false_from_ne_true (is_id g id) (λ t. let n = named_at g id t in missing n.0 n.1.vertex n.1.id_is))
either g id (Some v) (l, e) missing = record { vertex = l; id_is = e }

pub returns : goal.returns
returns c = search (rules, c.ok_or.ensures.value, either, c.vertex_of.ensures.found, c.vertex_of.ensures.missing)
