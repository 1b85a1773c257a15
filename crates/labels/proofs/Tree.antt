-- Laws of the winner tree, as steps of the loops that mend it. Assumes nothing.
use mathlib.Core.Path.{◌≡◌, ◌∙◌, refl, sym, ap, subst}
use mathlib.Core.List.{List}
use mathlib.Core.Logic.{◌⊎◌, ⊎_elim, inl, inr}
use Prim.Native.Nat.{ℕ, zero, suc, ◌+◌, ◌*◌, ◌/◌, ◌≤◌, ◌<◌}
use native.Mathlib.Omega.{arith}
use native.Mathlib.Nat.{le_refl}
use native.Mathlib.Decide.{dec_le, ℕ_discrete, map_dec}
use lib.ListN.{length, set}
use Rattle.states.specs.declared.State.{State}
use Rattle.states.specs.LabelSpace.{label_words}
use Rattle.labels.specs.declared.Candidate.{Candidate}
use Rattle.labels.specs.LabelWords.{winner_field, at, winner_of, Same, Added, WinnerWithin}
use Rattle.labels.specs.Tree.{ancestor, Under, Least, Right, Tree, TreeBut, Better, Stored, Mending, Entering}
use Rattle.labels.proofs.LabelWords.{set_same, set_label, kept_field}

-- Where a node stands.
ancestor_le : (d m : ℕ) → ancestor d m ≤ m
ancestor_le zero m = le_refl m
ancestor_le (suc d) m = let h = ancestor_le d m in omega arith

ancestor_in : (d m : ℕ) → ancestor (suc d) m ≡ ancestor d (m / 2)
ancestor_in zero m = refl
ancestor_in (suc d) m = ap (λ (x : ℕ). x / 2) (ancestor_in d m)

pub under_self : (k : ℕ) → Under k k
under_self k = (0, refl)

pub under_le : (k m : ℕ) → Under k m → k ≤ m
under_le k m u = omega (arith, ancestor_le u.0 m, u.1)

-- what is below a child is below its parent
pub under_up : (k j m : ℕ) → j / 2 ≡ k → Under j m → Under k m
under_up k j m h u = (suc u.0, omega (arith, u.1))

under_trans_at : (d k j m : ℕ) → ancestor d j ≡ k → Under j m → Under k m
under_trans_at zero k j m e u = subst (λ x. Under x m) e u
under_trans_at (suc d) k j m e u = under_up k (ancestor d j) m e (under_trans_at d (ancestor d j) j m refl u)

pub under_trans : (k j m : ℕ) → Under k j → Under j m → Under k m
under_trans k j m u = under_trans_at u.0 k j m u.1

-- the path from j up is j and the path from j / 2
pub path : (k j : ℕ) → Under k j → (k ≡ j) ⊎ Under k (j / 2)
path k j u = go u.0 u.1
  where
    go : (d : ℕ) → ancestor d j ≡ k → (k ≡ j) ⊎ Under k (j / 2)
    go zero e = inl (sym e)
    go (suc d) e = inr (d, sym (ancestor_in d j) ∙ e)

pub path_up : (k j : ℕ) → Under k (j / 2) → Under k j
path_up k j u = (suc u.0, ancestor_in u.0 j ∙ u.1)

-- whether k is on the path from j up
on_path : (k j : ℕ) → Dec (k ≡ j) → Dec (Under k (j / 2)) → Dec (Under k j)
on_path k j (yes e) d = yes (0, sym e)
on_path k j (no e) d = map_dec (path_up k j) (λ u. ⊎_elim (λ q. absurd (e q)) (λ q. q) (path k j u)) d

under_within : (k b j : ℕ) → 1 ≤ k → j ≤ b → Dec (Under k j)
under_within k zero j low h = no (λ u. omega (arith, under_le k j u))
under_within k (suc b) j low h = go (dec_le j b) (under_within k b j low) (λ l. on_path k j (ℕ_discrete k j) (under_within k b (j / 2) low (omega arith)))
  where
    go : Dec (j ≤ b) → (j ≤ b → Dec (Under k j)) → (b < j → Dec (Under k j)) → Dec (Under k j)
    go (yes l) f g = f l
    go (no l) f g = g (omega arith)

under? : (k j : ℕ) → 1 ≤ k → Dec (Under k j)
under? k j low = under_within k j j low (le_refl j)

-- one of two different children of a node is what a third child of it is
child : (k j s x : ℕ) → j / 2 ≡ k → s / 2 ≡ k → (s ≡ j → ⊥) → x / 2 ≡ k → (x ≡ j) ⊎ (x ≡ s)
child k j s x a b differs c = go (ℕ_discrete x j)
  where
    go : Dec (x ≡ j) → (x ≡ j) ⊎ (x ≡ s)
    go (yes e) = inl e
    go (no e) = inr (omega arith)

-- the subtree of k is k and the subtrees of its two children
split : (k j s m : ℕ) → j / 2 ≡ k → s / 2 ≡ k → (s ≡ j → ⊥) → Under k m → (m ≡ k) ⊎ (Under j m ⊎ Under s m)
split k j s m a b differs u = go u.0 u.1
  where
    go : (d : ℕ) → ancestor d m ≡ k → (m ≡ k) ⊎ (Under j m ⊎ Under s m)
    go zero e = inl e
    go (suc d) e = inr (⊎_elim (λ q. inl (d, q)) (λ q. inr (d, q)) (child k j s (ancestor d m) a b differs e))

-- every label is below the root
root_step : (m : ℕ) → 1 ≤ m → Dec (m ≤ 1) → (1 ≤ m / 2 → Under 1 (m / 2)) → Under 1 m
root_step m h (yes e) f = (0, omega arith)
root_step m h (no e) f = path_up 1 m (f (omega arith))

root_below : (b m : ℕ) → 1 ≤ m → m ≤ b → Under 1 m
root_below zero m h l = absurd (omega arith)
root_below (suc b) m h l = root_step m h (dec_le m 1) (λ p. root_below b (m / 2) p (omega arith))

pub under_root : (m : ℕ) → 1 ≤ m → Under 1 m
under_root m h = root_below m m h (le_refl m)

-- the better of two has what both have
pub better_has : {key : ℕ → ℕ} {a b v : ℕ} (P : ℕ → Type 0) → Better key a b v → P a → P b → P v
better_has P B p q = ⊎_elim (λ e. subst P (sym e) p) (λ e. subst P (sym e) q) B.one

-- The winner of a subtree.
-- past the labels there is none
pub least_none : (key : ℕ → ℕ) (n k : ℕ) → n < k → Least key n k 0
least_none key n k h = record {
  small = omega arith;
  under = λ p. absurd (omega arith);
  least = λ m b u. absurd (omega (arith, under_le k m u));
}

-- the winner of a node from those of its children j and s
pub join :
    {key : ℕ → ℕ} {n k j s l r u v : ℕ} → j / 2 ≡ k → s / 2 ≡ k → (s ≡ j → ⊥) → k ≤ n → Least key n j l → Least key n s r → Better key l k u
    → Better key u r v → Least key n k v
join {key} {n} {k} {j} {s} {l} {r} a b differs high L R B C = record {
  small = better_has (λ x. x ≤ n) C (better_has (λ x. x ≤ n) B L.small high) R.small;
  under = better_has U C (better_has U B (λ p. under_up k j l a (L.under p)) (λ p. under_self k)) (λ p. under_up k s r b (R.under p));
  least = λ m h w.
      ⊎_elim (λ e. omega (arith, B.second, C.first, ap key e)) (⊎_elim (λ e. omega (arith, B.first, C.first, L.least m h e)) (λ e. omega (arith, C.second, R.least m h e)))
      (split k j s m a b differs w);
}
  where
    U : ℕ → Type 0
    U x = 1 ≤ x → Under k x

-- a winner stays one where the keys of the labels below its node stay, and no other label comes in below it
pub least_keep :
    {key key' : ℕ → ℕ} {n n' k w : ℕ} → n ≤ n' → key' 0 ≡ key 0 → ((m : ℕ) → 1 ≤ m → m ≤ n' → Under k m → (m ≤ n) × (key' m ≡ key m)) → 1 ≤ k → Least key n k w
    → Least key' n' k w
least_keep {key} {key'} {n} {n'} {k} {w} grows none same low L = record {
  small = omega (arith, L.small);
  under = L.under;
  least = λ m h u.
      let M = same m (omega (arith, under_le k m u)) h u in
      omega (arith, L.least m M.0 u, M.1, stays (dec_le w 0));
}
  where
    stays : Dec (w ≤ 0) → key' w ≡ key w
    stays (yes h) = let e : w ≡ 0 = omega arith in rw e none
    stays (no h) = (same w (omega arith) (omega (arith, L.small)) (L.under (omega arith))).1

-- The tree, where keys or winners are told otherwise.
pub rekey_least : {key key' : ℕ → ℕ} {n k w : ℕ} → ((m : ℕ) → m ≤ n → key' m ≡ key m) → 1 ≤ k → Least key n k w → Least key' n k w
rekey_least {n} same = least_keep (le_refl n) (same 0 (omega arith)) (λ m low high u. (high, same m high))

pub rekey : (key key' : ℕ → ℕ) (ws : List ℕ) (n : ℕ) → ((m : ℕ) → m ≤ n → key' m ≡ key m) → Tree key ws n → Tree key' ws n
rekey key key' ws n same T k low high = rekey_least same low (T k low high)

pub rekey_but : (key key' : ℕ → ℕ) (ws : List ℕ) (n i : ℕ) → ((m : ℕ) → m ≤ n → key' m ≡ key m) → TreeBut key ws n i → TreeBut key' ws n i
rekey_but key key' ws n i same T k low high off = rekey_least same low (T k low high off)

pub rekey_mending : {key key' : ℕ → ℕ} {ws : List ℕ} {n j v : ℕ} → ((m : ℕ) → m ≤ n → key' m ≡ key m) → Mending key ws n j v → Mending key' ws n j v
rekey_mending {key} {key'} {ws} {n} {j} same M = record {
  low = M.low;
  high = M.high;
  won = rekey_least same M.low M.won;
  rest = rekey_but key key' ws n (j / 2) same M.rest;
}

pub rekey_entering : {key key' : ℕ → ℕ} {ws : List ℕ} {n j : ℕ} → ((m : ℕ) → m ≤ n + 1 → key' m ≡ key m) → Entering key ws n j → Entering key' ws n j
rekey_entering {key} {key'} {ws} {n} {j} same E = record {
  high = E.high;
  mine = E.mine;
  path = λ k low u. rekey_least (λ m h. same m (omega arith)) low (E.path k low u);
  rest = rekey_but key key' ws (n + 1) j same E.rest;
}

-- the store of a winner
pub stored : (ws : List ℕ) (n i v : ℕ) → 1 ≤ i → label_words * i ≤ length ws → Stored ws (set ws (at i winner_field) v) n i v
stored ws n i v low room = record {
  now = set_same ws i winner_field v (omega arith) low room;
  others = λ k a b differs. set_label ws i winner_field v (omega arith) k winner_field low a differs (omega arith);
}

-- A node that is not on the path to be mended holds its winner; past the labels there is none.
pub beyond : (key : ℕ → ℕ) (ws : List ℕ) (n i k r : ℕ) → TreeBut key ws n i → i < k → WinnerWithin ws n k r → Least key n k r
beyond key ws n i k r T h W = go (dec_le k n)
  where
    go : Dec (k ≤ n) → Least key n k r
    go (yes a) = rw (W.within a) (T k (omega arith) a (λ u. omega (arith, under_le k i u)))
    go (no a) = rw (W.past (omega arith)) (least_none key n k (omega arith))

-- Mending after the key of label i has changed.
-- at first the nodes from i up are in doubt
pub changed :
    (key key' : ℕ → ℕ) (ws ws' : List ℕ) (n i : ℕ) → 1 ≤ i → ((m : ℕ) → m ≤ n → (m ≡ i → ⊥) → key' m ≡ key m) → Same winner_field ws ws' n → Tree key ws n
    → TreeBut key' ws' n i
changed key key' ws ws' n i low same wins T k a b off =
    rw (wins k a b)
    (least_keep (le_refl n) (same 0 (omega arith) (λ e. omega arith)) (λ m c h u. (h, same m h (λ e. off (subst (λ x. Under k x) e u)))) a (T k a b))

-- one node of the path is mended
node_mended : (key : ℕ → ℕ) (ws ws' : List ℕ) (n i v : ℕ) → TreeBut key ws n i → Least key n i v → Stored ws ws' n i v → TreeBut key ws' n (i / 2)
node_mended key ws ws' n i v T L S k a b off = go (ℕ_discrete k i)
  where
    go : Dec (k ≡ i) → Right key ws' n k
    go (yes e) = rw (e, S.now) L
    go (no e) = rw (S.others k a b e) (T k a b (λ u. ⊎_elim e off (path k i u)))

-- the label's own node, from the winners l and r of its children
pub mend_first : {key : ℕ → ℕ} {ws : List ℕ} {n i l : ℕ} → 1 ≤ i → i ≤ n → TreeBut key ws n i → WinnerWithin ws n (2 * i) l → Mending key ws n (2 * i) l
mend_first {key} {ws} {n} {i} {l} low high T L =
    let e : 2 * i / 2 ≡ i = omega arith in
    record { low = omega arith; high = omega arith; won = beyond key ws n i (2 * i) l T (omega arith) L; rest = rw e T }

-- the winner r of j's sibling s
pub beside : {key : ℕ → ℕ} {ws : List ℕ} {n j s v r : ℕ} → Mending key ws n j v → 1 < j → s / 2 ≡ j / 2 → WinnerWithin ws n s r → Least key n s r
beside {key} {ws} {n} {j} {s} {r} M two by R = beyond key ws n (j / 2) s r M.rest (omega arith) R

-- the node above j, from the winner v that was found below j and the winner r of j's sibling s
pub mend_step :
    {key : ℕ → ℕ} {ws ws' : List ℕ} {n j s v r u v' : ℕ} → Mending key ws n j v → 1 < j → s / 2 ≡ j / 2 → (s ≡ j → ⊥) → WinnerWithin ws n s r
    → Better key v (j / 2) u → Better key u r v' → Stored ws ws' n (j / 2) v' → Mending key ws' n (j / 2) v'
mend_step {key} {ws} {ws'} {n} {j} {v'} M two by differs R B C S =
    let won =
    join refl by differs M.high M.won (beside M two by R) B C in
    record { low = omega arith; high = omega (arith, M.high); won = won; rest = node_mended key ws ws' n (j / 2) v' M.rest won S }

-- at the root the tree is right again
pub mend_end : {key : ℕ → ℕ} {ws : List ℕ} {n j v : ℕ} → Mending key ws n j v → j ≤ 1 → Tree key ws n
mend_end {j} M one k a b = M.rest k a b (λ u. omega (arith, under_le k (j / 2) u))

-- Mending after label n + 1 has come in, as the winner of its own node.
pub enter_first :
    (key : ℕ → ℕ) (ws ws' : List ℕ) (n : ℕ) → Tree key ws n → winner_of ws' (n + 1) ≡ n + 1 → Same winner_field ws ws' n → Entering key ws' n ((n + 1) / 2)
enter_first key ws ws' n T now same = record {
  high = omega arith;
  mine = λ h. path_up _ (n + 1) (under_self _);
  path = λ k low u. let h : k ≤ n = omega (arith, under_le k _ u) in rw (same k low h) (T k low h);
  rest = λ k a b off. go k a b off (dec_le k n);
}
  where
    go : (k : ℕ) → 1 ≤ k → k ≤ n + 1 → (Under k ((n + 1) / 2) → ⊥) → Dec (k ≤ n) → Right key ws' (n + 1) k
    go k a b off (yes h) =
        rw (same k a h)
        (least_keep (omega arith) refl (λ m c d u. (below m d u (dec_le m n), refl)) a (T k a h))
      where
        below : (m : ℕ) → m ≤ n + 1 → Under k m → Dec (m ≤ n) → m ≤ n
        below m d u (yes f) = f
        below m d u (no f) =
            let e : m ≡ n + 1 = omega arith in
            absurd (⊎_elim (λ q. omega arith) off (path k (n + 1) (subst (λ x. Under k x) e u)))
    go k a b off (no h) =
        let e : k ≡ n + 1 = omega arith in
        rw (e, now)
        (record {
          small = le_refl _;
          under = λ p. under_self _;
          least = λ m d u. let q : m ≡ n + 1 = omega (arith, under_le (n + 1) m u) in rw q (le_refl _);
        })

pub enter_added :
    {key : ℕ → ℕ} {ws ws' : List ℕ} {n : ℕ} {label : State} {parent : ℕ} {c : Candidate} → Added ws ws' n label parent c → Tree key ws n
    → Entering key ws' n ((n + 1) / 2)
enter_added {key} {ws} {ws'} {n} A T = enter_first key ws ws' n T A.wins (kept_field ws ws' n A.kept winner_field (omega arith))

-- the new label wins at node j
pub enter_step :
    {key : ℕ → ℕ} {ws ws' : List ℕ} {n j : ℕ} → Entering key ws n j → 1 ≤ j → key (n + 1) ≤ key (winner_of ws j) → Stored ws ws' (n + 1) j (n + 1)
    → Entering key ws' n (j / 2)
enter_step {key} {ws} {ws'} {n} {j} E low wins S = record {
  high = omega (arith, E.high);
  mine = λ h. under_trans (j / 2) j (n + 1) (path_up _ j (under_self _)) (E.mine low);
  path = λ k a u.
      let h = under_le k (j / 2) u in
      rw (S.others k a (omega (arith, E.high)) (λ e. omega arith)) (E.path k a (path_up k j u));
  rest = node_mended key ws ws' (n + 1) j (n + 1) E.rest (record {
    small = le_refl _;
    under = λ p. E.mine low;
    least = λ m h u. go m h u (dec_le m n);
  }) S;
}
  where
    go : (m : ℕ) → m ≤ n + 1 → Under j m → Dec (m ≤ n) → key (n + 1) ≤ key m
    go m h u (yes f) = omega (arith, (E.path j low (under_self j)).least m f u)
    go m h u (no f) = let e : m ≡ n + 1 = omega arith in rw e (le_refl _)

-- a node whose winner is no worse than the new label: it is right, and so are those above it
pub enter_stop :
    {key : ℕ → ℕ} {ws : List ℕ} {n j : ℕ} → Entering key ws n j → 1 ≤ j → ((m : ℕ) → m ≤ n → key m ≤ key 0) → key (winner_of ws j) ≤ key (n + 1)
    → Tree key ws (n + 1)
enter_stop {key} {ws} {n} {j} E low last beats k a b = go (under? k j a)
  where
    go : Dec (Under k j) → Right key ws (n + 1) k
    go (no off) = E.rest k a b off
    go (yes u) = record {
      small = omega (arith, P.small);
      under = P.under;
      least = λ m h w. at_label m h w (dec_le m n);
    }
      where
        P : Right key ws n k
        P = E.path k a u

        J : Right key ws n j
        J = E.path j low (under_self j)

        above : Dec (winner_of ws j ≤ 0) → key (winner_of ws k) ≤ key (winner_of ws j)
        above (yes h) = let e : winner_of ws j ≡ 0 = omega arith in rw e (last _ P.small)
        above (no h) = P.least _ J.small (under_trans k j _ u (J.under (omega arith)))

        at_label : (m : ℕ) → m ≤ n + 1 → Under k m → Dec (m ≤ n) → key (winner_of ws k) ≤ key m
        at_label m h w (yes f) = P.least m f w
        at_label m h w (no f) = let e : m ≡ n + 1 = omega arith in rw e (omega (arith, above (dec_le (winner_of ws j) 0)))

-- the path is at its end
pub enter_end : {key : ℕ → ℕ} {ws : List ℕ} {n j : ℕ} → Entering key ws n j → j ≤ 0 → Tree key ws (n + 1)
enter_end {j} E end k a b = E.rest k a b (λ u. omega (arith, under_le k j u))

-- The root's winner is the least of all labels.
pub root_least : (key : ℕ → ℕ) (ws : List ℕ) (n : ℕ) → 1 ≤ n → Tree key ws n → (m : ℕ) → 1 ≤ m → m ≤ n → key (winner_of ws 1) ≤ key m
root_least key ws n h T m a b = (T 1 (omega arith) h).least m b (under_root m a)

pub root_small : (key : ℕ → ℕ) (ws : List ℕ) (n : ℕ) → 1 ≤ n → Tree key ws n → winner_of ws 1 ≤ n
root_small key ws n h T = (T 1 (omega arith) h).small
