-- Series in parts: what came of two parts, the front of what came, and a series that completes with other calls around it.
-- Assumes nothing.
use mathlib.Core.Path.{◌≡◌, refl, ap}
use Prim.Native.Nat.{ℕ}
use native.Mathlib.Omega.{arith}
use mathlib.Core.Bool.{Bool, true, false, cond}
use mathlib.Core.List.{List, [], ◌∷◌, ◌++◌, append_assoc}
use Rattle.server.specs.KeyExchange.{View}
use Rattle.record_theorems.specs.Series.{Call, Kept, call, run, refused_to_host, came}
use Rattle.record_theorems.specs.Demand3.{Completes}
use Rattle.record_theorems.proofs.Coming.{run-came}

module _ (v : View) where
  pub came-append : (k : Kept) (xs ys : List Call) → came v k (xs ++ ys) ≡ came v k xs ++ came v (run v k xs) ys
  came-append k [] ys = refl
  came-append k (x ∷ xs) ys = go (refused_to_host (call v k x).said) _ _ (came-append (call v k x).kept xs ys)
    where
      go : (b : Bool) (first rest : List Call) {all : List Call} → all ≡ first ++ rest → cond b all (x ∷ all) ≡ cond b first (x ∷ first) ++ rest
      go true first rest e = e
      go false first rest e = ap (λ (l : List Call). x ∷ l) e

  -- calls of a series whose front came are the front of the series
  record Front (k : Kept) (calls xs : List Call) : Type 0 where
    before : List Call
    after : List Call
    is : calls ≡ before ++ after
    comes : came v k before ≡ xs

  came-front : (k : Kept) (calls xs ys : List Call) → came v k calls ≡ xs ++ ys → Front k calls xs
  came-front k [] xs ys e = go xs e
    where
      go : (zs : List Call) → [] ≡ zs ++ ys → Front k [] zs
      go [] e = record { before = []; after = []; is = refl; comes = refl }
      go (z ∷ zs) e = let w : ◌≡◌ {A = ℕ} 0 1 = cc in absurd (omega arith)
  came-front k (x ∷ calls) xs ys e =
      go (refused_to_host (call v k x).said) refl xs e (λ zs. came-front (call v k x).kept calls zs ys)
    where
      go : (b : Bool) → refused_to_host (call v k x).said ≡ b → (zs : List Call)
          → cond b (came v (call v k x).kept calls) (x ∷ came v (call v k x).kept calls) ≡ zs ++ ys
          → ((ws : List Call) → came v (call v k x).kept calls ≡ ws ++ ys → Front (call v k x).kept calls ws)
          → Front k (x ∷ calls) zs
      go true host zs e behind =
          let f = behind zs e in
          record { before = x ∷ f.before; after = f.after; is = ap (λ (l : List Call). x ∷ l) f.is; comes = rw host f.comes }
      go false comes [] e behind = record { before = []; after = x ∷ calls; is = refl; comes = refl }
      go false comes (z ∷ zs) e behind =
          let rest : came v (call v k x).kept calls ≡ zs ++ ys = cc in
          let same : x ≡ z = cc in
          let f = behind zs rest in
          record { before = x ∷ f.before; after = f.after; is = ap (λ (l : List Call). x ∷ l) f.is; comes = rw (comes, f.comes, same) }

  -- ---- a series that completes, with others around it

  pub completes-behind : (k : Kept) (xs ys : List Call) → Completes v (run v k xs) ys → Completes v k (xs ++ ys)
  completes-behind k [] ys c = c
  completes-behind k (x ∷ xs) ys c =
      let rest = completes-behind (call v k x).kept xs ys c in
      record { before = x ∷ rest.before; after = rest.after; is = ap (λ (l : List Call). x ∷ l) rest.is; complete = rest.complete }

  pub completes-before : (k : Kept) (xs ys : List Call) → Completes v k xs → Completes v k (xs ++ ys)
  completes-before k xs ys c =
      record { before = c.before; after = c.after ++ ys; is = rw c.is (append_assoc c.before c.after ys); complete = c.complete }

  pub completes-came : (k : Kept) (calls : List Call) → Completes v k (came v k calls) → Completes v k calls
  completes-came k calls c =
      let f = came-front k calls c.before c.after c.is in
      record {
        before = f.before;
        after = f.after;
        is = f.is;
        complete = rw (← run-came v k f.before, f.comes) c.complete;
      }
