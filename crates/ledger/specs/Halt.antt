-- Paper 02, Q-9, "Halt a port that lies": which refusals halt a port, which of them its mark tells, which arrivals a halt turns away, and
-- "that mark is the only change". Assumes nothing.
use Rattle.std.specs.Prelude.{◌≡◌, ◌≢◌, Bool, cond, ◌&&◌, ◌||◌, ℕ, eqb, ltb}
use Rattle.ledger.specs.Settings.{Settings}
use Rattle.ledger.specs.Ledger.{Column, halted, Ledger, mark_of}

-- "After refusal 7, 8 or 18": a checksum that differs, another port's source; 18 comes with Q-4's beats
unfoldable pub halts : ℕ → Bool
halts n = eqb n 7 || (eqb n 8 || eqb n 18)

-- rule (i): "the mark is 0, 7, 8 or 18"
unfoldable pub is_mark : ℕ → Bool
is_mark n = eqb n 0 || halts n

-- whether refusal n of an arrival at port p, whose mark is v, marks the port: "the first if several"
unfoldable pub marks : Settings → ℕ → ℕ → ℕ → Bool
marks S p v n = ltb p S.ports && (eqb v 0 && halts n)

-- "While halted, arrivals there to queues above 0 are refused 10 as if credit were 0; queue 0 goes on": of queue q, where the mark is v
unfoldable pub held_up : ℕ → ℕ → Bool
held_up q v = ltb 0 q && ltb 0 v

-- ---- "that mark is the only change, amending demand 1"

-- the ledgers L and N differ in port p's mark alone
pub record OnlyMark (p : ℕ) (L N : Ledger) : Type 0 where
  pub same_lists : N.lists ≡ L.lists
  pub same_numbers : (c : Column) → c ≢ halted → N.numbers c ≡ L.numbers c
  pub other_marks : (r : ℕ) → r ≢ p → mark_of N r ≡ mark_of L r

-- what refusal n of an arrival at port p leaves of the ledger L
pub record TurnedAway (S : Settings) (p n : ℕ) (L N : Ledger) : Type 0 where
  pub only : OnlyMark p L N
  pub mark : mark_of N p ≡ cond (marks S p (mark_of L p) n) n (mark_of L p)
