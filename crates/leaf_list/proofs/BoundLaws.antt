-- How long a leaf list may get, and what follows a dummy (02, xi). Assumes nothing.
use mathlib.Core.Path.{◌≡◌, refl, ap, sym, subst, ◌∙◌}
use mathlib.Core.Bool.{Bool, true, false, true≢false}
use mathlib.Core.Option.{Option, none, some}
use mathlib.Core.List.{List, [], ◌∷◌, ◌++◌}
use Prim.Native.Nat.{ℕ, zero, suc, ◌+◌, ◌*◌, ◌-◌, ◌^◌, ◌≤◌, ◌<◌}
use native.Mathlib.Omega.{arith}
use native.Mathlib.Nat.{mul-suc, mul-add, suc-mul, pow-suc}
use lib.ListN.{length, replicate, length-append, length-replicate}
use lib.Pow.{pow_pos}
use Rattle.leaf_list.specs.Keys.{Key, bits, value}
use Rattle.leaf_list.specs.Entries.{Entry, entry, pointer_of, is_nil, live_records}
use Rattle.leaf_list.specs.Herd.{Herd, Narrow, Sorted}
use Rattle.leaf_list.specs.LeafList.{leaf_list, item, items}
use Rattle.leaf_list.specs.Bounds.{most_entries, DummiesFollowed, Bounded, largest_two, TwoReach}
use Rattle.leaf_list.specs.Trie.{Trie, leaf, zero_only, one_only, fork, write, write_all, trie_of, trie_list}
use Rattle.leaf_list.proofs.Bits.{bits_length, value_number, value_bound, value_injective}
use Rattle.leaf_list.proofs.Tries.{Branching, Pruned, Sized, Given, last_record}
use Rattle.leaf_list.proofs.TrieOf.{trie_of_pruned, trie_of_sized}
use Rattle.leaf_list.proofs.HerdItems.{items_lengths, live_records_trie_list}
use Rattle.leaf_list.proofs.LiveRecords.{trie_records, live_records_write}
use Rattle.leaf_list.proofs.Depths.{Neighbours, front_of, write_front}
use Rattle.leaf_list.proofs.SubHerds.{length_records_of}
use Rattle.leaf_list.proofs.Literal.{twin}
use Rattle.leaf_list.proofs.Laws.{empty_law, neighbours_law}

-- ---- the live entries

-- There is one for each key.
live_length : (w : ℕ) (s : Herd) → Narrow w s → Sorted s → length (live_records (trie_list w s)) ≡ length s
live_length w s q o = ap length (live_records_trie_list w s q o) ∙ length_records_of s

-- ---- at most 1 + W × (n − 1)

-- How many keys a trie holds besides one.
abbrev others : Trie → ℕ
others (leaf k r) = 0
others (zero_only t) = others t
others (one_only t) = others t
others (fork a b) = suc (others a + others b)

-- Its records are one more.
others_records : (t : Trie) (rest : List ℕ) → length (trie_records t rest) ≡ suc (others t) + length rest
others_records (leaf k r) rest = omega arith
others_records (zero_only t) rest = others_records t rest
others_records (one_only t) rest = others_records t rest
others_records (fork a b) rest = others_records a (trie_records b rest) ∙ omega (arith, others_records b rest)

-- A node that is no leaf holds another key.
others_branching : (t : Trie) → Pruned t → Branching t → 1 ≤ others t
others_branching (leaf k r) g m = absurd m
others_branching (zero_only t) g m = others_branching t g.1 g.0
others_branching (one_only t) g m = others_branching t g.1 g.0
others_branching (fork a b) g m = omega arith

-- The entries of a node whose keys have n bits left: its last, and for each other key at most n.
write_length : (t : Trie) (n l c : ℕ) (rest : List Entry) → Sized n t → Pruned t → length (write l t c rest) ≤ suc (n * others t) + length rest
write_length (leaf k r) n l c rest f g = omega arith
write_length (zero_only t) zero l c rest f g = absurd f
write_length (one_only t) zero l c rest f g = absurd f
write_length (fork a b) zero l c rest f g = absurd f
write_length (zero_only t) (suc n) l c rest f g = omega (arith, write_length t n (suc l) c rest f g.1, suc-mul n (others t))
write_length (one_only t) (suc n) l c rest f g =
    omega (arith, write_length t n (suc l) c rest f g.1, suc-mul n (others t), others_branching t g.1 g.0)
write_length (fork a b) (suc n) l c rest f g =
    omega (
      arith,
      write_length a n (suc l) (suc l) (write (suc l) b c rest) f.0 g.0,
      write_length b n (suc l) c rest f.1 g.1,
      suc-mul n (suc (others a + others b)),
      mul-suc n (others a + others b),
      mul-add n (others a) (others b),
    )

-- "at most 1 + W × (n − 1) leaf entries"
most_law : (w : ℕ) (s : Herd) → Narrow w s → Sorted s → 1 ≤ length s → length (leaf_list w s) ≤ most_entries w (length s)
most_law w s q o h =
    rw (twin w s q o) (go (trie_of w (items w s)) (trie_of_sized w (items w s) (items_lengths w s)) (trie_of_pruned w (items w s)) (live_length w s q o))
  where
    go : (t : Option Trie) → Given (Sized w) t → Given Pruned t → length (live_records (write_all t)) ≡ length s → length (write_all t) ≤ most_entries w (length s)
    go none f g e = absurd (omega (arith, e))
    go (some t) f g e =
        let n : others t ≡ length s - 1 = omega (arith, e, ap length (live_records_write t 0 0 []), others_records t []) in
        rw (sym n) (omega (arith, write_length t w 0 0 [] f g))

-- ---- what follows a dummy

-- The last entry, of which there is one, is live.
abbrev LastLive : List Entry → Type 0
LastLive [] = ⊥
LastLive (e ∷ []) = is_nil (pointer_of e) ≡ false
LastLive (e ∷ f ∷ es) = LastLive (f ∷ es)

-- So it is where a live entry ends the list.
last_live_append : (xs : List Entry) (d r : ℕ) → LastLive (xs ++ entry d (some r) ∷ [])
last_live_append [] d r = refl
last_live_append (x ∷ []) d r = refl
last_live_append (x ∷ y ∷ xs) d r = last_live_append (y ∷ xs) d r

-- No dummy is last, and every other is shallower than the next.
dummies_followed : (es : List Entry) → Neighbours es → LastLive es → DummiesFollowed es
dummies_followed [] n l = absurd l
dummies_followed (entry d none ∷ []) n l = absurd (true≢false l)
dummies_followed (entry d (some r) ∷ []) n l = tt
dummies_followed (entry d none ∷ f ∷ es) n l = (n.0.after_dummy refl, dummies_followed (f ∷ es) n.1 l)
dummies_followed (entry d (some r) ∷ f ∷ es) n l = dummies_followed (f ∷ es) n.1 l

-- "every dummy is followed by a deeper entry"
followed_law : (w : ℕ) (s : Herd) → Narrow w s → Sorted s → 1 ≤ length s → DummiesFollowed (leaf_list w s)
followed_law w s q o h = dummies_followed (leaf_list w s) (neighbours_law w s q o) (rw (twin w s q o) (go (trie_of w (items w s)) (live_length w s q o)))
  where
    go : (t : Option Trie) → length (live_records (write_all t)) ≡ length s → LastLive (write_all t)
    go none e = absurd (omega (arith, e))
    go (some t) e = rw (write_front t 0 0 []) (last_live_append (front_of 0 t) 0 (last_record t))

-- "save the sole entry of an empty herd"
sole_law : (w : ℕ) (s : Herd) → length s ≡ 0 → leaf_list w s ≡ entry 0 none ∷ []
sole_law w [] e = empty_law w
sole_law w (x ∷ s) e = absurd (omega (arith, e))

-- ---- every herd

-- The list of every herd keeps all three.
pub bounds_law : (w : ℕ) (s : Herd) → Narrow w s → Sorted s → Bounded w (length s) (leaf_list w s)
bounds_law w s q o = record { most = most_law w s q o; followed = followed_law w s q o; sole = sole_law w s }

-- An empty herd is an exception: its one entry is a dummy, and no entry follows it.
pub exception_law : (w : ℕ) → DummiesFollowed (leaf_list w []) → ⊥
exception_law w g = (subst DummiesFollowed (empty_law w) g).0

-- ---- two keys that reach the bound

-- A key that has so many ones and then a bit.
abbrev ones_then : ℕ → Bool → Key
ones_then n b = replicate n true ++ b ∷ []

-- It has one bit more than ones.
ones_then_length : (n : ℕ) (b : Bool) → length (ones_then n b) ≡ suc n
ones_then_length n b = length-append (replicate n true) (b ∷ []) ∙ omega (arith, length-replicate {A = Bool} n true)

-- As a number it is the largest of its bits, or with the bit 0 the largest but one,
ones_then_value : (n : ℕ) (b : Bool) → value (b ∷ []) + 2 ^ suc n ≡ value (ones_then n b) + 2
ones_then_value zero b = omega arith
ones_then_value (suc n) b =
    omega (arith, ones_then_value n b, pow-suc 2 (suc n), ap (λ (i : ℕ). 2 ^ i) (ones_then_length n b))

-- and these numbers have these bits.
ones_then_bits : (n x : ℕ) (b : Bool) → x + 2 ≡ value (b ∷ []) + 2 ^ suc n → bits (suc n) x ≡ ones_then n b
ones_then_bits n x b e =
    let same : value (ones_then n b) ≡ x = omega (arith, e, ones_then_value n b) in
    let long : length (ones_then n b) ≡ suc n = ones_then_length n b in
    let narrow : x < 2 ^ suc n = subst (λ (i : ℕ). x < 2 ^ i) long (omega (arith, value_bound (ones_then n b), same)) in
    value_injective (bits (suc n) x) (ones_then n b) (bits_length (suc n) x ∙ sym long) (value_number (suc n) x narrow ∙ sym same)

-- A trie that has nothing but one-bits, and forks at its end.
abbrev deep_fork : ℕ → ℕ → ℕ → Trie
deep_fork zero r r' = fork (leaf [] r) (leaf [] r')
deep_fork (suc n) r r' = one_only (deep_fork n r r')

-- It is the trie of these two keys,
deep_fork_trie : (n r r' : ℕ) → trie_of (suc n) (item (ones_then n false) r ∷ item (ones_then n true) r' ∷ []) ≡ some (deep_fork n r r')
deep_fork_trie zero r r' = refl
deep_fork_trie (suc zero) r r' = refl
deep_fork_trie (suc (suc n)) r r' = rw (deep_fork_trie (suc n) r r')

-- and it is written as a dummy for each one-bit and two leaves.
deep_fork_length : (n r r' l c : ℕ) (rest : List Entry) → length (write l (deep_fork n r r') c rest) ≡ suc (suc n) + length rest
deep_fork_length zero r r' l c rest = omega arith
deep_fork_length (suc n) r r' l c rest = omega (arith, deep_fork_length n r r' (suc l) c rest)

-- "for each W two keys reach the bound": the two largest, whatever their records.
pub reached_law : (w r r' : ℕ) → 1 ≤ w → TwoReach w (largest_two w r r')
reached_law zero r r' h = absurd (omega arith)
reached_law (suc n) r r' h = record { two = refl; narrow = narrow; sorted = sorted; reached = reached }
  where
    room : 2 ≤ 2 ^ suc n
    room = omega (arith, pow-suc 2 n, pow_pos n)

    narrow : Narrow (suc n) (largest_two (suc n) r r')
    narrow = (omega (arith, room), (omega (arith, room), tt))

    sorted : Sorted (largest_two (suc n) r r')
    sorted = ((omega (arith, room), tt), (tt, tt))

    low : bits (suc n) (2 ^ suc n - 2) ≡ ones_then n false
    low = ones_then_bits n (2 ^ suc n - 2) false (omega (arith, room))

    high : bits (suc n) (2 ^ suc n - 1) ≡ ones_then n true
    high = ones_then_bits n (2 ^ suc n - 1) true (omega (arith, room))

    reached : length (leaf_list (suc n) (largest_two (suc n) r r')) ≡ most_entries (suc n) 2
    reached =
        ap length (twin (suc n) (largest_two (suc n) r r') narrow sorted)
        ∙ rw (low, high, deep_fork_trie n r r') (deep_fork_length n r r' 0 0 [] ∙ omega arith)

-- ---- the figure itself

-- It is 1 for one key, and W more for each further key: so it is no higher from three keys on, where no herd is known that reaches it.
pub most_steps : (w n : ℕ) → (most_entries w 1 ≡ 1) × (most_entries w (suc (suc n)) ≡ most_entries w (suc n) + w)
most_steps w n =
    let one : suc n - 1 ≡ n = omega arith in
    let more : suc (suc n) - 1 ≡ suc n = omega arith in
    (omega arith, rw (one, more) (omega (arith, mul-suc w n)))
