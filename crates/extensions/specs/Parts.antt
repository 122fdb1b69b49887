-- The types of a block by eight parts of 8,192 numbers: what a pass over the block says of one of them. The rule itself is `block_rule`.
use Rattle.std.specs.Prelude.{ℕ, ◌/◌, ◌&&◌, cond, List, [], ◌∷◌, eqb, ltb, Option, None, Some}
use Rattle.lists.specs.Lists.{distinct}
use Rattle.extensions.specs.declared.Pass.{Pass}
use Rattle.extensions.specs.declared.Pass.TheVariants.{Holds, Fails}
use Rattle.extensions.specs.Extensions.{Ext, kinds}

-- the extensions whose types are in the part p, from 8,192 p on
abbrev pub in_part : ℕ → List Ext → List Ext
in_part p [] = []
in_part p (e ∷ es) = cond (eqb (e.kind / 8192) p) (e ∷ in_part p es) (in_part p es)

-- of two parts the nearer one above p
abbrev pub nearer : ℕ → ℕ → ℕ → ℕ
nearer p other nearest = cond (ltb p other && ltb other nearest) other nearest

-- the nearest part above p that has extensions, where `nearest` was it before
abbrev pub nearest_of : ℕ → ℕ → List Ext → ℕ
nearest_of p nearest [] = nearest
nearest_of p nearest (e ∷ es) = nearest_of p (nearer p (e.kind / 8192) nearest) es

abbrev pub pass_over : ℕ → Option (List Ext) → Pass
pass_over p None = Fails
pass_over p (Some es) = cond (distinct eqb (kinds (in_part p es))) (Holds (nearest_of p 8 es)) Fails
