-- "The old queue manager handed the nodes back to the wrong port. One pool ran dry": the customer's night, as statements. A port that lies
-- hurts only itself, and what its refused arrivals change is its own mark; pools neither leak nor mix. Assumes nothing.
use Rattle.std.specs.Prelude.{◌≡◌, ◌≢◌, Bool, false, cond, not, ◌&&◌, List, [], ◌∷◌, ◌++◌, map, ℕ, ◌+◌, ◌<◌, length, get_or, eqb}
use Rattle.ledger.specs.Settings.{Settings}
use Rattle.ledger.specs.Header.{form, fields_of, Load, bytes_in}
use Rattle.ledger.specs.Ledger.{owner, Packet, recorded, free, ingress, place#, place_of, Column, arrival, Ledger, list_at, arrival_of, mark_of}
use Rattle.ledger.specs.Ready.{bit}
use Rattle.ledger.specs.Halt.{OnlyMark, TurnedAway}
use Rattle.ledger.specs.Calls.{Act, arrive, stitch, prefetch, credit, map_to, turn, ready, where_is, clear, report, bucket, show, Reply, refused, entry}
use Rattle.ledger.specs.Calls.{is_refused}
use Rattle.ledger.specs.Desk.{Desk, has, Call, setup, act, after_calls, answers_of}
use Rattle.ledger.specs.Sound.{All, weigh, owes}
use Rattle.ledger.specs.Order.{is_free, came_to, left_from, ids_at, FirstInFirstOut}

-- ---- an arrival

-- the ledgers L and N differ at port p alone: in its free list, its ingress list and its arrival credit
pub record OnlyAt (S : Settings) (p : ℕ) (L N : Ledger) : Type 0 where
  pub other_lists : (l : ℕ) → l ≢ place# S (free p) → l ≢ place# S (ingress p) → get_or N.lists l [] ≡ get_or L.lists l []
  pub other_credit : (r q : ℕ) → q < S.queues → r ≢ p → arrival_of S N r q ≡ arrival_of S L r q
  pub other_numbers : (c : Column) → c ≢ arrival → N.numbers c ≡ L.numbers c

-- port p's oldest free node x, one of its own, took the header in: it stands last in p's ingress list with what the header says recorded,
-- and p's arrival credit for the queue is lower by the price
pub record TakenIn (S : Settings) (L : Ledger) (p : ℕ) (h : Load) (x : ℕ) (N : Ledger) : Type 0 where
  pub own : owner x ≡ p
  pub from_pool : ids_at S L (free p) ≡ x ∷ ids_at S N (free p)
  pub to_ingress : list_at S N (ingress p) ≡ list_at S L (ingress p) ++ (recorded S x (fields_of (form S) (bytes_in h)) ∷ [])
  pub paid : (q : ℕ) → q < S.queues → arrival_of S N p q + owes p q (recorded S x (fields_of (form S) (bytes_in h))) ≡ arrival_of S L p q
  pub only : OnlyAt S p L N

-- what an arrival at port p of any bytes h answers and leaves of the ledger L: a refusal and at most p's mark, or an own node with the header
pub data Arrival (S : Settings) (L : Ledger) (p : ℕ) (h : Load) : Reply → Ledger → Type 0 where
  turned_away : (n : ℕ) (N : Ledger) → TurnedAway S p n L N → Arrival S L p h (refused n) N
  taken : (x : ℕ) (N : Ledger) → TakenIn S L p h x N → Arrival S L p h (entry x) N

-- ---- a pool

-- port p's nodes that aren't free
abbrev pub away : Settings → ℕ → ℕ → Packet → ℕ
away S p l k = bit (eqb (owner k.node) p && not (is_free (place_of S l)))

abbrev pub away_from : Settings → Ledger → ℕ → ℕ
away_from S L p = weigh (away S p) L.lists

-- After calls in which every setup is refused, where x showed the ledger L: port p's free list is what was free and what came home, in
-- that order, less as many of the oldest as arrivals at p took, both read off the answers; it holds p's own nodes alone; and free and not
-- free together are N.
pub record PoolKept {X : Type 0} (call : X → Call → Reply × X) (shows : X → Desk) (S : Settings) (L : Ledger) (p : ℕ)
    (x : X) (cs : List Call) : Type 0 where
  pub ledger : Ledger
  pub shown : shows (after_calls call x cs) ≡ has S ledger
  pub is_in_order : FirstInFirstOut (ids_at S L (free p)) (came_to (free p) cs (answers_of call x cs)) (left_from (free p) cs (answers_of call x cs))
      (ids_at S ledger (free p))
  pub own : All (λ y. owner y ≡ p) (ids_at S ledger (free p))
  pub whole : length (ids_at S ledger (free p)) + away_from S ledger p ≡ S.nodes

-- ---- the night, continued (paper 02, Q-9): what reaches another port of a port that lies

-- the ledgers L and N agree on what an arrival at port r reads: r's free list, its arrival credit and its mark
pub record AgreeAt (S : Settings) (r : ℕ) (L N : Ledger) : Type 0 where
  pub same_free : list_at S N (free r) ≡ list_at S L (free r)
  pub same_credit : (q : ℕ) → q < S.queues → arrival_of S N r q ≡ arrival_of S L r q
  pub same_mark : mark_of N r ≡ mark_of L r

-- an arrival at port p that is refused
abbrev pub refused_at : ℕ → Act → Reply → Bool
refused_at p (arrive r h) x = eqb r p && is_refused x
refused_at p (stitch r) x = false
refused_at p (prefetch r q) x = false
refused_at p (credit r q n) x = false
refused_at p (map_to d r) x = false
refused_at p (turn c r) x = false
refused_at p (ready r) x = false
refused_at p (where_is y) x = false
refused_at p (clear r) x = false
refused_at p (report r) x = false
refused_at p (bucket r b) x = false
refused_at p (show ns r q) x = false

-- of calls and their answers, the acts but such arrivals, each with its answer; a setup, which is refused, is left out
abbrev pub other_by : ℕ → Call → Reply → List (Act × Reply) → List (Act × Reply)
other_by p (setup T) x rest = rest
other_by p (act a) x rest = cond (refused_at p a x) rest ((a, x) ∷ rest)

abbrev pub others : ℕ → List Call → List Reply → List (Act × Reply)
others p [] xs = []
others p (c ∷ cs) [] = []
others p (c ∷ cs) (x ∷ xs) = other_by p c x (others p cs xs)

abbrev pub asked : List (Act × Reply) → List Call
asked ys = map (λ y. act y.0) ys

-- they are answered alike, but port p's reports
abbrev pub AlikeBut : ℕ → List (Act × Reply) → List Reply → Type 0
AlikeBut p [] [] = Unit {0}
AlikeBut p [] (x ∷ xs) = ⊥
AlikeBut p (y ∷ ys) [] = ⊥
AlikeBut p (y ∷ ys) (x ∷ xs) = (y.0 ≢ report p → x ≡ y.1) × AlikeBut p ys xs

-- After calls in which every setup is refused: had port p's refused arrivals, whatever their bytes, and right ones that its halt turned away
-- among them, never been sent, every other act would have been answered as it was, but p's reports, and the ledger would be as it is, but
-- p's mark.
pub record OwnMarkAlone {X : Type 0} (call : X → Call → Reply × X) (shows : X → Desk) (S : Settings) (p : ℕ) (x : X) (cs : List Call) : Type 0 where
  pub sent : Ledger
  pub unsent : Ledger
  pub shown : shows (after_calls call x cs) ≡ has S sent
  pub shown_without : shows (after_calls call x (asked (others p cs (answers_of call x cs)))) ≡ has S unsent
  pub only : OnlyMark p unsent sent
  pub answers : AlikeBut p (others p cs (answers_of call x cs)) (answers_of call x (asked (others p cs (answers_of call x cs))))

-- ---- "the first if several": a halt lasts

-- After calls in which every setup is refused, and none of which clears port p: the mark v that it had is the one that it has.
pub record HaltLasts {X : Type 0} (call : X → Call → Reply × X) (shows : X → Desk) (S : Settings) (p v : ℕ) (x : X) (cs : List Call) : Type 0 where
  pub ledger : Ledger
  pub shown : shows (after_calls call x cs) ≡ has S ledger
  pub stays : mark_of ledger p ≡ v
