-- What the payloads of a chain count as.
use Rattle.std.proofs.Common.{◌≡◌, ◌≤◌, ◌<◌, ◌+◌, ◌*◌, ℕ, zero, suc, true, List, [], ◌∷◌, ◌++◌, refl, ap, arith}
use Rattle.std.proofs.Common.{◌∙◌}
use Rattle.std.proofs.lemmas.Bool.{lt-ltb}
use Rattle.std.specs.Prelude.{nat_lt, ◌&&◌}
use Rattle.std.specs.List.{fold}
use Rattle.pc_parsed.specs.declared.payload.Payload.{Payload}
use Rattle.pc_parsed.specs.declared.payload.Payload.TheVariants as payload
use Rattle.pc_parsed.specs.Program.{entity_total, is_numbered, item_count}
use Rattle.pc_generate.specs.Generated.{link, links, payloads}
use Rattle.pc_generate.specs.Table.{table}

-- what stands behind the front of the list
abbrev pub rest : (number left : ℕ) → List Payload
rest k left = links k left ++ payload.End ∷ []

-- each link is two items, and the end is one
pub rest_items : (a k left : ℕ) → fold (λ (a : ℕ) (p : Payload). a + item_count p) a (rest k left) ≡ a + 2 * left + 1
rest_items a k zero = omega arith
rest_items a k (suc left) = rest_items (a + 1 + 1) (k + 1) left ∙ omega arith

-- no link has entities
pub rest_entities : (a k left : ℕ) → fold (λ (a : ℕ) (p : Payload). a + entity_total p) a (rest k left) ≡ a
rest_entities a k zero = omega arith
rest_entities a k (suc left) = rest_entities (a + 0 + 0) (k + 1) left ∙ omega arith

-- two numbers are below the bound
both_below : (x y a b : ℕ) → x ≡ a → y ≡ b → a < 4294967295 → b < 4294967295
    → nat_lt 1 4294967295 && nat_lt 4 4294967295 && nat_lt x 4294967295 && nat_lt y 4294967295 ≡ true
both_below x y a b first second low below =
    rw (lt-ltb x 4294967295 (omega (arith, first, low)), lt-ltb y 4294967295 (omega (arith, second, below))) refl

-- a chain can be numbered
pub numbered : (n : ℕ) → n ≤ 10000 → is_numbered table (payloads n) ≡ true
unfolding table payloads
numbered n few =
    both_below _ _ 3 (21 + 2 * n + 1) (rest_entities 3 0 n) (rest_items 21 0 n) (omega arith) (omega (arith, few))

-- one link more
pub links_more : (k left : ℕ) → links k left ++ link (k + left) ≡ links k (left + 1)
links_more k zero = ap link (let e : k + 0 ≡ k = omega arith in e)
links_more k (suc left) =
    ap (λ m. links k (suc left) ++ link m) (let e : k + suc left ≡ k + 1 + left = omega arith in e)
    ∙ ap (λ ls. link k ++ ls) (links_more (k + 1) left)
    ∙ ap (links k) (let e : suc (left + 1) ≡ suc left + 1 = omega arith in e)
