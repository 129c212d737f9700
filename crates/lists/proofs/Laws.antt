-- A first node that goes from list i to the end of list j, by a pop at a and a push at b, as the code has the two numbers: what each requires,
-- and what both come to. With no code. Assumes nothing.
use mathlib.Core.Path.{◌≡◌}
use mathlib.Core.List.{List}
use Prim.Native.Nat.{ℕ}
use Rattle.layout.specs.declared.shape.Shape.{Shape}
use Rattle.layout.specs.Shapes.{settings_of}
use Rattle.memory.specs.Ends.{push_mem}
use Rattle.memory.proofs.Pop.{pop_tidy, pop_node}
use Rattle.lists.specs.Ends.{CanTake, CanPut, CanShift, Taken, Shifted}

module _ {s : Shape} {a i j : ℕ} {m : List ℕ} where
  pub can_take : a ≡ i → CanShift s i j m → CanTake s a m
  can_take ea can = rw ea can.take

module _ {s : Shape} {a b i j x : ℕ} {m m' : List ℕ} where
  -- what was taken off can be put on
  pub can_put : a ≡ i → b ≡ j → CanShift s i j m → Taken s a x m m' → CanPut s b x m'
  can_put ea eb can taken =
      let take = can.take in
      record {
        tidy = rw (taken.memory, ea) (pop_tidy _ _ _ take.tidy take.inside take.some);
        inside = rw eb can.target;
        node = rw (taken.first, ea) (pop_node _ _ _ take.tidy take.inside take.some);
      }

  -- taken off and put on, it has gone from the one list to the other
  pub shifted : {m'' : List ℕ} → a ≡ i → b ≡ j → Taken s a x m m' → m'' ≡ push_mem (settings_of s) b x m' → Shifted s i j x m m''
  shifted ea eb taken put = record { first = rw ea at taken.first; memory = rw (put, taken.memory, taken.first, ea, eb) }
