-- No depth of a written trie comes again before a shallower one has come; parts of such a list are such lists. Assumes nothing.
use mathlib.Core.Logic.{inl, inr}
use mathlib.Core.Option.{Option, none, some}
use mathlib.Core.List.{List, [], ◌∷◌, ◌++◌}
use Prim.Native.Nat.{ℕ, suc, ◌≤◌, ◌<◌}
use native.Mathlib.Omega.{arith}
use Rattle.leaf_list.specs.Entries.{Entry, depth_of}
use Rattle.leaf_list.specs.Depths.{Unmatched, Unrepeated}
use Rattle.leaf_list.specs.Trie.{Trie, leaf, zero_only, one_only, fork, write, write_all}

module _ {A : Type 0} (depth : A → ℕ) where
  unmatched_left : (d : ℕ) (xs ys : List A) → Unmatched depth d (xs ++ ys) → Unmatched depth d xs
  unmatched_left d [] ys h = tt
  unmatched_left d (x ∷ xs) ys (inl h) = inl h
  unmatched_left d (x ∷ xs) ys (inr h) = inr (h.0, unmatched_left d xs ys h.1)

  pub unrepeated_left : (xs ys : List A) → Unrepeated depth (xs ++ ys) → Unrepeated depth xs
  unrepeated_left [] ys h = tt
  unrepeated_left (x ∷ xs) ys h = (unmatched_left (depth x) xs ys h.0, unrepeated_left xs ys h.1)

  pub unrepeated_right : (xs ys : List A) → Unrepeated depth (xs ++ ys) → Unrepeated depth ys
  unrepeated_right [] ys h = h
  unrepeated_right (x ∷ xs) ys h = unrepeated_right xs ys h.1

-- All entries of a node at depth l are deeper than d, and so is what closes it: d is met, or passed, behind it.
unmatched_through : (t : Trie) (l c d : ℕ) (rest : List Entry) → d ≤ l → d < c → Unmatched depth_of d rest → Unmatched depth_of d (write l t c rest)
unmatched_through (leaf k r) l c d rest h g u = inr (g, u)
unmatched_through (zero_only t) l c d rest h g u = unmatched_through t (suc l) c d rest (omega arith) g u
unmatched_through (one_only t) l c d rest h g u = inr (omega arith, unmatched_through t (suc l) c d rest (omega arith) g u)
unmatched_through (fork a b) l c d rest h g u =
    unmatched_through a (suc l) (suc l) d (write (suc l) b c rest) (omega arith) (omega arith) (unmatched_through b (suc l) c d rest (omega arith) g u)

-- What closes the node is shallower than d.
unmatched_within : (t : Trie) (l c d : ℕ) (rest : List Entry) → d ≤ l → c < d → Unmatched depth_of d (write l t c rest)
unmatched_within (leaf k r) l c d rest h g = inl g
unmatched_within (zero_only t) l c d rest h g = unmatched_within t (suc l) c d rest (omega arith) g
unmatched_within (one_only t) l c d rest h g = inr (omega arith, unmatched_within t (suc l) c d rest (omega arith) g)
unmatched_within (fork a b) l c d rest h g =
    unmatched_through a (suc l) (suc l) d (write (suc l) b c rest) (omega arith) (omega arith) (unmatched_within b (suc l) c d rest (omega arith) g)

unrepeated_write : (t : Trie) (l c : ℕ) (rest : List Entry) → c ≤ l → Unmatched depth_of c rest → Unrepeated depth_of rest → Unrepeated depth_of (write l t c rest)
unrepeated_write (leaf k r) l c rest h u s = (u, s)
unrepeated_write (zero_only t) l c rest h u s = unrepeated_write t (suc l) c rest (omega arith) u s
unrepeated_write (one_only t) l c rest h u s = (unmatched_within t (suc l) c (suc l) rest (omega arith) (omega arith), unrepeated_write t (suc l) c rest (omega arith) u s)
unrepeated_write (fork a b) l c rest h u s =
    unrepeated_write a (suc l) (suc l) (write (suc l) b c rest) (omega arith) (unmatched_within b (suc l) c (suc l) rest (omega arith) (omega arith))
    (unrepeated_write b (suc l) c rest (omega arith) u s)

pub unrepeated_write_all : (o : Option Trie) → Unrepeated depth_of (write_all o)
unrepeated_write_all none = (tt, tt)
unrepeated_write_all (some t) = unrepeated_write t 0 0 [] (omega arith) tt tt
