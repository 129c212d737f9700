-- What each write does to the picture, a law each, in the ledger's own words. Assumes nothing.
use mathlib.Core.Path.{◌≡◌, refl, sym, ap, ◌∙◌, subst}
use mathlib.Core.Logic.{◌≢◌}
use mathlib.Core.Bool.{true, false, cond, Bool}
use mathlib.Core.List.{List, [], ◌∷◌}
use Prim.Native.Nat.{ℕ, zero, suc, ◌≤◌, ◌<◌, ◌^◌, ◌-◌, ◌*◌}
use native.Mathlib.Omega.{arith}
use lib.ListN.{length, get_or, drop}
use Rattle.ledger.specs.Settings.{Settings, size}
use Rattle.ledger.specs.Ledger.{is_node, Packet, cell, oldest, pop, push, set_credit, put_credit, put_in, Column, column#, tall, change, Ledger}
use Rattle.ledger.specs.Sound.{weigh, one, Proper, Roomy}
use Rattle.ledger.specs.Calls.{is_empty}
use Rattle.ledger.proofs.Tests.{true≢false}
use Rattle.ledger.proofs.Places.{cell_lt}
use Rattle.ledger.proofs.Header.{port_width, price_le}
use Rattle.layout.specs.declared.Table.{Table}
use Rattle.layout.specs.declared.Table.TheVariants.{Setting, Head, Count, Length, Stamp, Queue, Dest, Poisoned}
use Rattle.layout.specs.declared.Table.TheVariants.{Transaction, Price}
use Rattle.layout.specs.Tables.{turn_of, many, lists, get, put, table_of, width}
use Rattle.layout.specs.Picture.{settings_in, slot, packet_at, node_in, ledger_in}
use Rattle.layout.proofs.Tables.{length_put, get_put, get_put_else, settings_put, drop_put}
use Rattle.memory.specs.Ends.{pop_mem, push_mem, Tidy, IsRecord, with_lists}
use Rattle.memory.specs.Writes.{record_mem, credit_mem}
use Rattle.memory.proofs.Chains.{list_length, list_empty, slot_record, differ, column_table}
use Rattle.memory.proofs.Pop as take-off
use Rattle.memory.proofs.Push as put_on
use Rattle.memory.proofs.Records.{record_ledger, record_tidy, column_tidy, column_put}
use lib.Dec.{eqb}

-- what every write keeps: the settings, the length, the bytes past the size, and that the lists are tidy
pub record Kept (S : Settings) (m m' : List ℕ) : Type 0 where
  pub settings : settings_in m' ≡ settings_in m
  pub same_length : length m' ≡ length m
  pub past : drop (size S) m' ≡ drop (size S) m
  pub tidy : Tidy S m'

pub kept_then : (S : Settings) (m m' m'' : List ℕ) → Kept S m m' → Kept S m' m'' → Kept S m m''
kept_then S m m' m'' a b =
    record { settings = b.settings ∙ a.settings; same_length = b.same_length ∙ a.same_length; past = b.past ∙ a.past; tidy = b.tidy }

-- a column that is put back as it was
unchanged : (c : Column) (L : Ledger) → L ≡ change c (λ xs. xs) L
unfolding change
unchanged c L = λ k. record { lists = L.lists; numbers = λ d. same (eqb (column# c) (column# d)) (L.numbers d) k }
  where
    same : (b : Bool) (xs : List ℕ) → xs ≡ cond b xs xs
    same true xs = refl
    same false xs = refl

-- a list with something in it has a count
pub counted_some : (S : Settings) (m : List ℕ) (l : ℕ) → l < lists S → is_empty (get_or (ledger_in S m).lists l []) ≡ false → 0 < get S m Count l
counted_some S m l h e = go (get S m Count l) refl
  where
    go : (n : ℕ) → get S m Count l ≡ n → 0 < n
    go zero i = absurd (true≢false (sym (ap is_empty (list_empty S m l h i)) ∙ e))
    go (suc n) i = omega arith

-- a list is empty exactly where its count is 0
pub empty_is : (S : Settings) (m : List ℕ) (l : ℕ) → l < lists S → get S m Count l ≡ 0 → is_empty (get_or (ledger_in S m).lists l []) ≡ true
empty_is S m l h e = ap is_empty (list_empty S m l h e)

pub some_is : (S : Settings) (m : List ℕ) (l : ℕ) → l < lists S → (get S m Count l ≡ 0 → ⊥) → is_empty (get_or (ledger_in S m).lists l []) ≡ false
some_is S m l h n = go (get_or (ledger_in S m).lists l []) (list_length S m l h)
  where
    go : (ks : List Packet) → length ks ≡ get S m Count l → is_empty ks ≡ false
    go [] e = absurd (n (sym e))
    go (k ∷ ks) e = refl

module _ (S : Settings) (ok : Roomy S) (m : List ℕ) (t : Tidy S m) where
  -- taking off
  module _ (a : ℕ) (ha : a < lists S) (some : is_empty (get_or (ledger_in S m).lists a []) ≡ false) where
    pub pop_paint : ledger_in S (pop_mem S a m) ≡ with_lists (pop a (ledger_in S m).lists) (ledger_in S m)
    pop_paint = take-off.pop_ledger S m a t ha (counted_some S m a ha some)

    pub pop_kept : Kept S m (pop_mem S a m)
    pop_kept = record {
      settings = take-off.settings_pop S m a ha;
      same_length = take-off.length_pop_mem S m a;
      past = take-off.past_pop S m a ha;
      tidy = take-off.pop_tidy S m a t ha (counted_some S m a ha some);
    }

    pub pop_item : oldest (get_or (ledger_in S m).lists a []) ≡ node_in S m a (get S m Head a)
    pop_item = take-off.pop_item S m a t ha (counted_some S m a ha some)

    pub pop_node : is_node S (get S m Head a) ≡ true
    pop_node = take-off.pop_node S m a t ha (counted_some S m a ha some)

    pub pop_gone : weigh (one (get S m Head a)) (ledger_in S (pop_mem S a m)).lists ≡ 0
    pop_gone = take-off.pop_gone S m a t ha (counted_some S m a ha some)

    pub pop_packet : (x : ℕ) → is_node S x ≡ true → packet_at S (pop_mem S a m) x ≡ packet_at S m x
    pop_packet x n = take-off.pop_packet S m a ha x n

  -- a node that stands nowhere
  module _ (x : ℕ) (n : is_node S x ≡ true) (gone : weigh (one x) (ledger_in S m).lists ≡ 0) where
    pub push_paint : (b : ℕ) → b < lists S → ledger_in S (push_mem S b x m) ≡ with_lists (push b (node_in S m b x) (ledger_in S m).lists) (ledger_in S m)
    push_paint b hb = put_on.push_ledger S m b x ok t hb n

    pub push_kept : (b : ℕ) → b < lists S → Kept S m (push_mem S b x m)
    push_kept b hb = record {
      settings = put_on.settings_push S m b x ok t hb n;
      same_length = put_on.length_push_mem S m b x ok t hb n;
      past = put_on.past_push S m b x ok t hb n;
      tidy = put_on.push_tidy S m b x ok t hb n gone;
    }

  -- a column of numbers
  module _ (c : Column) where
    pub column_kept : (i v : ℕ) → i < tall S c → Kept S m (put S (table_of c) i v m)
    column_kept i v h =
        let f = column_table S c in
        let hi : i < many S (table_of c) = rw f.long h in
        record {
          settings = settings_put S m (table_of c) i v hi (differ (table_of c) Setting (λ e. omega (arith, f.above)));
          same_length = length_put S (table_of c) i v m;
          past = drop_put S (table_of c) i v m hi;
          tidy = column_tidy S m (table_of c) i v t hi f.low;
        }

    pub column_paint : (i v : ℕ) → i < tall S c → v < 256 ^ width (table_of c) → ledger_in S (put S (table_of c) i v m) ≡ put_in c i v (ledger_in S m)
    column_paint i v h b = column_put S m c i v t h b

    -- of credits
    module _ (credits : tall S c ≡ S.ports * (S.queues - 1)) (p : ℕ) (hp : p < S.ports) where
      pub credit_kept : (q v : ℕ) → q < S.queues → Kept S m (credit_mem S (table_of c) p q v m)
      unfolding credit_mem
      credit_kept zero v hq = record { settings = refl; same_length = refl; past = refl; tidy = t }
      credit_kept (suc r) v hq = column_kept (cell S p r) v (rw credits (cell_lt S p r hp hq))

      pub credit_paint : (q v : ℕ) → q < S.queues → v < 256 ^ width (table_of c)
          → ledger_in S (credit_mem S (table_of c) p q v m) ≡ put_credit c S p q v (ledger_in S m)
      unfolding credit_mem set_credit
      credit_paint zero v hq b = unchanged c (ledger_in S m)
      credit_paint (suc r) v hq b = column_paint (cell S p r) v (rw credits (cell_lt S p r hp hq)) b

-- ---- a record: seven puts for a node that stands nowhere

module _ (S : Settings) (x : ℕ) (n : is_node S x ≡ true) where
  -- memory in which the node stands nowhere, reached from m by writing records of x
  record Nowhere (m m' : List ℕ) : Type 0 where
    kept : Kept S m m'
    shows : ledger_in S m' ≡ ledger_in S m
    gone : weigh (one x) (ledger_in S m').lists ≡ 0

  one_put : (m m' : List ℕ) (r : Table) (v : ℕ) → IsRecord r → Nowhere m m' → Nowhere m (put S r (slot S x) v m')
  one_put m m' r v k w =
      let same : ledger_in S (put S r (slot S x) v m') ≡ ledger_in S m' = record_ledger S m' r x v w.kept.tidy k n w.gone in
      record {
        kept = kept_then S m m' _ w.kept (record {
          settings = settings_put S m' r (slot S x) v (slot_record S x r n k) (differ r Setting (λ e. omega arith));
          same_length = length_put S r (slot S x) v m';
          past = drop_put S r (slot S x) v m' (slot_record S x r n k);
          tidy = record_tidy S m' r x v w.kept.tidy k n w.gone;
        });
        shows = same ∙ w.shows;
        gone = rw same w.gone;
      }

  written : (m : List ℕ) → Tidy S m → weigh (one x) (ledger_in S m).lists ≡ 0 → (k : Packet) → k.node ≡ x → Nowhere m (record_mem S k m)
  unfolding record_mem
  written m t gone k e =
      subst (λ (y : ℕ). Nowhere m (put S Price (slot S y) k.price (put S Transaction (slot S y) k.transaction (put S Poisoned (slot S y) k.poisoned
      (put S Dest (slot S y) k.dest (put S Queue (slot S y) k.queue (put S Stamp (slot S y) k.stamp (put S Length (slot S y) k.len m)))))))) (sym e)
      (one_put m _ Price k.price (omega arith)
      (one_put m _ Transaction k.transaction (omega arith)
      (one_put m _ Poisoned k.poisoned (omega arith)
      (one_put m _ Dest k.dest (omega arith)
      (one_put m _ Queue k.queue (omega arith)
      (one_put m _ Stamp k.stamp (omega arith)
      (one_put m _ Length k.len (omega arith)
      (record { kept = record { settings = refl; same_length = refl; past = refl; tidy = t }; shows = refl; gone = gone }))))))))

module _ (S : Settings) (ok : Roomy S) (m : List ℕ) (t : Tidy S m) where
  module _ (x : ℕ) (n : is_node S x ≡ true) (gone : weigh (one x) (ledger_in S m).lists ≡ 0) where
    pub record_paint : (k : Packet) → k.node ≡ x → ledger_in S (record_mem S k m) ≡ ledger_in S m
    record_paint k e = (written S x n m t gone k e).shows

    pub record_kept : (k : Packet) → k.node ≡ x → Kept S m (record_mem S k m)
    record_kept k e = (written S x n m t gone k e).kept

  -- a record is read back as it was written
  module _ (k : Packet) (n : is_node S k.node ≡ true) (good : Proper S k) where
    abbrev i : ℕ
    i = slot S k.node

    skip : (m' : List ℕ) (r a : Table) (v : ℕ) → IsRecord r → IsRecord a → turn_of r ≢ turn_of a → get S (put S r i v m') a i ≡ get S m' a i
    skip m' r a v hr ha d = get_put_else S m' r i v a i (slot_record S k.node r n hr) (slot_record S k.node a n ha) (λ e j. differ r a d e)

    abbrev m₁ : List ℕ
    m₁ = put S Length i k.len m

    abbrev m₂ : List ℕ
    m₂ = put S Stamp i k.stamp m₁

    abbrev m₃ : List ℕ
    m₃ = put S Queue i k.queue m₂

    abbrev m₄ : List ℕ
    m₄ = put S Dest i k.dest m₃

    abbrev m₅ : List ℕ
    m₅ = put S Poisoned i k.poisoned m₄

    abbrev m₆ : List ℕ
    m₆ = put S Transaction i k.transaction m₅

    abbrev m₇ : List ℕ
    m₇ = put S Price i k.price m₆

    long : (m' : List ℕ) (r : Table) (v : ℕ) → size S ≤ length m' → size S ≤ length (put S r i v m')
    long m' r v h = rw (length_put S r i v m') h

    l₁ : size S ≤ length m₁
    l₁ = long m Length k.len t.long

    l₂ : size S ≤ length m₂
    l₂ = long m₁ Stamp k.stamp l₁

    l₃ : size S ≤ length m₃
    l₃ = long m₂ Queue k.queue l₂

    l₄ : size S ≤ length m₄
    l₄ = long m₃ Dest k.dest l₃

    l₅ : size S ≤ length m₅
    l₅ = long m₄ Poisoned k.poisoned l₄

    l₆ : size S ≤ length m₆
    l₆ = long m₅ Transaction k.transaction l₅

    slot_in : (r : Table) → IsRecord r → i < many S r
    slot_in r h = slot_record S k.node r n h

    cheap : k.price < 256
    cheap = omega (arith, good.price_is, price_le S.beat k.queue k.len ok.low_beat good.len_high)

    f₇ : get S m₇ Price i ≡ k.price
    f₇ = get_put S m₆ Price i k.price l₆ (slot_in Price (omega arith)) cheap

    f₆ : get S m₇ Transaction i ≡ k.transaction
    f₆ =
        skip m₆ Price Transaction k.price (omega arith) (omega arith) (λ e. omega arith)
        ∙ get_put S m₅ Transaction i k.transaction l₅ (slot_in Transaction (omega arith)) good.transaction_in

    s₅ : (a : Table) → IsRecord a → turn_of a < turn_of Transaction → get S m₇ a i ≡ get S m₅ a i
    s₅ a h b = skip m₆ Price a k.price (omega arith) h (λ e. omega arith) ∙ skip m₅ Transaction a k.transaction (omega arith) h (λ e. omega arith)

    f₅ : get S m₇ Poisoned i ≡ k.poisoned
    f₅ = s₅ Poisoned (omega arith) (omega arith) ∙ get_put S m₄ Poisoned i k.poisoned l₄ (slot_in Poisoned (omega arith)) (omega (arith, good.poisoned_in))

    s₃ : (a : Table) → IsRecord a → turn_of a < turn_of Dest → get S m₇ a i ≡ get S m₃ a i
    s₃ a h b =
        s₅ a h (omega arith)
        ∙ skip m₄ Poisoned a k.poisoned (omega arith) h (λ e. omega arith)
        ∙ skip m₃ Dest a k.dest (omega arith) h (λ e. omega arith)

    f₄ : get S m₇ Dest i ≡ k.dest
    f₄ =
        s₅ Dest (omega arith) (omega arith)
        ∙ skip m₄ Poisoned Dest k.poisoned (omega arith) (omega arith) (λ e. omega arith)
        ∙ get_put S m₃ Dest i k.dest l₃ (slot_in Dest (omega arith)) (omega (arith, good.dest_in, (port_width S ok).least, ok.few_ports))

    f₃ : get S m₇ Queue i ≡ k.queue
    f₃ =
        s₃ Queue (omega arith) (omega arith)
        ∙ get_put S m₂ Queue i k.queue l₂ (slot_in Queue (omega arith)) (omega (arith, good.queue_in_range, ok.few_queues))

    f₂ : get S m₇ Stamp i ≡ k.stamp
    f₂ =
        s₃ Stamp (omega arith) (omega arith)
        ∙ skip m₂ Queue Stamp k.queue (omega arith) (omega arith) (λ e. omega arith)
        ∙ get_put S m₁ Stamp i k.stamp l₁ (slot_in Stamp (omega arith)) good.stamp_in

    f₁ : get S m₇ Length i ≡ k.len
    f₁ =
        s₃ Length (omega arith) (omega arith)
        ∙ skip m₂ Queue Length k.queue (omega arith) (omega arith) (λ e. omega arith)
        ∙ skip m₁ Stamp Length k.stamp (omega arith) (omega arith) (λ e. omega arith)
        ∙ get_put S m Length i k.len t.long (slot_in Length (omega arith)) (omega (arith, good.len_high))

    pub record_packet : packet_at S (record_mem S k m) k.node ≡ k
    unfolding packet_at record_mem
    record_packet = λ d. record {
      node = k.node;
      len = f₁ d;
      queue = f₃ d;
      dest = f₄ d;
      stamp = f₂ d;
      poisoned = f₅ d;
      transaction = f₆ d;
      price = f₇ d;
    }
