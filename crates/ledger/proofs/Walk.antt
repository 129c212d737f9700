-- How a wait goes through calls: where every act ends it, or leaves a wait that is shorter if the act counts, its end comes before too many
-- have counted; and where every round has an act that counts, before too many rounds are over. Assumes nothing.
use mathlib.Core.Path.{◌≡◌, refl, ap, ◌∙◌}
use mathlib.Core.Bool.{Bool, true, false}
use mathlib.Core.List.{List, [], ◌∷◌, ◌++◌, map}
use Prim.Native.Nat.{ℕ, zero, suc, ◌+◌, ◌-◌, ◌≤◌, ◌<◌, zero-le, suc-le-suc}
use native.Mathlib.Nat.{le_of_suc-le-suc}
use native.Mathlib.Omega.{arith}
use native.Mathlib.Decide.{dec_le}
use lib.ListN.{length, get_or, take, length-append, get_or-append}
use lib.Seq.{take-append-le, take-append-add, get_or-append-add}
use Rattle.ledger.specs.Settings.{Settings}
use Rattle.ledger.specs.Ledger.{Ledger}
use Rattle.ledger.specs.Ready.{bit}
use Rattle.ledger.specs.Calls.{Act, ready, Reply, is_refused, step, run}
use Rattle.ledger.specs.Desk.{Desk, none, has, Call, setup, act, is_setup, after_calls, SetupsRefused}
use Rattle.ledger.specs.Sound.{All, Roomy, Orderly}
use Rattle.ledger.specs.Rounds.{Carried}
use Rattle.ledger.specs.Door.{calls_of, rounds_in, rounds_before}
use Rattle.ledger.proofs.Tests.{ltb_is, ltb_not}
use Rattle.ledger.proofs.Steps.{keep_step}
use Rattle.ledger.proofs.Courses.{calls_append, refused_parts, Faithful, act_shows, refused_shows}

-- ---- acts

-- how many of the acts count, where c says which do
abbrev pub count_in : Settings → (Ledger → Act → Bool) → Ledger → List Act → ℕ
count_in S c L [] = 0
count_in S c L (a ∷ acts) = bit (c L a) + count_in S c (step S L a).1 acts

pub count_append : (S : Settings) (c : Ledger → Act → Bool) (L : Ledger) (xs ys : List Act)
    → count_in S c L (xs ++ ys) ≡ count_in S c L xs + count_in S c (run S L xs) ys
count_append S c L [] ys = omega arith
count_append S c L (a ∷ xs) ys = omega (arith, count_append S c (step S L a).1 xs ys)

-- W n: it waits for at most n acts that count. c: which acts count. E: the act that it waits for
module _ (S : Settings) (W : ℕ → Ledger → Type 0) (c : Ledger → Act → Bool) (E : Ledger → Act → Type 0) where
  -- what an act does to a wait for n: it ends it, or leaves one that is shorter if the act counts
  pub data Does (n : ℕ) (L : Ledger) (a : Act) : Type 0 where
    ends : E L a → Does n L a
    nears : (m : ℕ) → bit (c L a) + m ≤ n → W m (step S L a).1 → Does n L a

  pub record Course : Type 0 where
    pub some : (n : ℕ) (L : Ledger) → Orderly S L → W n L → 1 ≤ n
    pub moves : (n : ℕ) (L : Ledger) → Orderly S L → W n L → (a : Act) → Does n L a

-- ---- calls: x shows a ledger in which it waits

module _ {X : Type 0} (shows : X → Desk) (S : Settings) (W : ℕ → Ledger → Type 0) where
  pub record Waiting (n : ℕ) (x : X) : Type 0 where
    pub ledger : Ledger
    pub shown : shows x ≡ has S ledger
    pub orderly : Orderly S ledger
    pub waits : W n ledger

  abbrev pub Standing : X → Type 0
  Standing x = (n : ℕ) × Waiting n x

-- a call counts if it is an act that does, in the ledger that the desk has
abbrev counts_at : (Ledger → Act → Bool) → Desk → Call → Bool
counts_at c D (setup T) = false
counts_at c none (act a) = false
counts_at c (has S L) (act a) = c L a

module _ {X : Type 0} (call : X → Call → Reply × X) (shows : X → Desk) (c : Ledger → Act → Bool) where
  abbrev pub count_calls : X → List Call → ℕ
  count_calls x [] = 0
  count_calls x (b ∷ cs) = bit (counts_at c (shows x) b) + count_calls (call x b).1 cs

-- calls that are acts count as the acts do
pub count_acts : {X : Type 0} (call : X → Call → Reply × X) (shows : X → Desk) (long : X → ℕ) (faithful : Faithful call shows long)
    (S : Settings) (c : Ledger → Act → Bool) (x : X) (L : Ledger) → shows x ≡ has S L
    → (acts : List Act) → count_calls call shows c x (map act acts) ≡ count_in S c L acts
count_acts call shows long faithful S c x L e [] = refl
count_acts call shows long faithful S c x L e (a ∷ acts) =
    let o = count_acts call shows long faithful S c (call x (act a)).1 (step S L a).1 (act_shows call shows long faithful S x L e a) acts in
    rw e (ap (λ (n : ℕ). bit (c L a) + n) o)

-- among the calls there is an act that is E, before which fewer than n are counted, and up to it it waits
module _ {X : Type 0} (call : X → Call → Reply × X) (shows : X → Desk) (S : Settings) (W : ℕ → Ledger → Type 0) (E : Ledger → Act → Type 0) where
  pub record Comes (before : ℕ → ℕ) (n : ℕ) (x : X) (cs : List Call) : Type 0 where
    pub moment : ℕ
    pub among : moment < length cs
    pub soon : before moment < n
    pub found : Ledger
    pub shown : shows (after_calls call x (take moment cs)) ≡ has S found
    pub that : Act
    pub is_that : get_or cs moment (act (ready 0)) ≡ act that
    pub event : E found that
    pub until_then : (i : ℕ) → i ≤ moment → Standing shows S W (after_calls call x (take i cs))

module _ {X : Type 0} (call : X → Call → Reply × X) (shows : X → Desk) (long : X → ℕ) (faithful : Faithful call shows long)
    (S : Settings) (ok : Roomy S) (W : ℕ → Ledger → Type 0) (c : Ledger → Act → Bool) (E : Ledger → Act → Type 0)
    (course : Course S W c E) where
  abbrev W' : ℕ → X → Type 0
  W' n x = Waiting shows S W n x

  abbrev counted : X → List Call → ℕ
  counted x cs = count_calls call shows c x cs

  -- the end of the wait comes; or it does not, and all along it waits
  data Fate (n : ℕ) (x : X) (cs : List Call) : Type 0 where
    comes : Comes call shows S W E (λ t. counted x (take t cs)) n x cs → Fate n x cs
    stays : (m : ℕ) → counted x cs + m ≤ n → W' m (after_calls call x cs)
        → ((i : ℕ) → i ≤ length cs → Standing shows S W (after_calls call x (take i cs))) → Fate n x cs

  some_left : (n : ℕ) (x : X) → W' n x → 1 ≤ n
  some_left n x w = course.some n w.ledger w.orderly w.waits

  module _ (n : ℕ) (x : X) (w : W' n x) (b : Call) (cs : List Call) where
    abbrev next : X
    next = (call x b).1

    at_once : (a : Act) → b ≡ act a → E w.ledger a → Fate n x (b ∷ cs)
    at_once a i e = comes (record {
      moment = 0;
      among = suc-le-suc zero-le;
      soon = some_left n x w;
      found = w.ledger;
      shown = w.shown;
      that = a;
      is_that = i;
      event = e;
      until_then = λ i. elim i as (λ j. j ≤ 0 → Standing shows S W (after_calls call x (take j (b ∷ cs)))) [
        | zero ↦ λ h. (n, w)
        | suc j ↦ λ h. absurd (omega arith)
      ];
    })

    -- what holds from the next moment on, and now, holds from now on
    then : (m : ℕ) → bit (counts_at c (shows x) b) + m ≤ n → Fate m next cs → Fate n x (b ∷ cs)
    then m h (comes o) = comes (record {
      moment = suc o.moment;
      among = suc-le-suc o.among;
      soon = omega (arith, o.soon);
      found = o.found;
      shown = o.shown;
      that = o.that;
      is_that = o.is_that;
      event = o.event;
      until_then = λ i. elim i as (λ j. j ≤ suc o.moment → Standing shows S W (after_calls call x (take j (b ∷ cs)))) [
        | zero ↦ λ l. (n, w)
        | suc j ↦ λ l. o.until_then j (le_of_suc-le-suc l)
      ];
    })
    then m h (stays j i v held) =
        stays j (omega arith) v
        (λ i. elim i as (λ j. j ≤ suc (length cs) → Standing shows S W (after_calls call x (take j (b ∷ cs)))) [
          | zero ↦ λ l. (n, w)
          | suc j ↦ λ l. held j (le_of_suc-le-suc l)
        ])

  -- one call: an act goes its course, and a refused setup leaves what is shown
  one_call : (n : ℕ) (x : X) (w : W' n x) (b : Call) (cs : List Call) → (is_setup b ≡ true → is_refused (call x b).0 ≡ true)
      → ((m : ℕ) → W' m (call x b).1 → Fate m (call x b).1 cs) → Fate n x (b ∷ cs)
  one_call n x w (setup T) cs f rec =
      then n x w (setup T) cs n (omega arith)
      (rec n
      (record {
        ledger = w.ledger;
        shown = refused_shows call shows long faithful S x (setup T) refl (f refl) ∙ w.shown;
        orderly = w.orderly;
        waits = w.waits;
      }))
  one_call n x w (act a) cs f rec = go (course.moves n w.ledger w.orderly w.waits a)
    where
      go : Does S W c E n w.ledger a → Fate n x (act a ∷ cs)
      go (ends e) = at_once n x w (act a) cs a refl e
      go (nears m h v) =
          then n x w (act a) cs m (rw w.shown h)
          (rec m
          (record {
            ledger = (step S w.ledger a).1;
            shown = act_shows call shows long faithful S x w.ledger w.shown a;
            orderly = keep_step S ok w.ledger w.orderly a;
            waits = v;
          }))

  walk : (cs : List Call) (n : ℕ) (x : X) → SetupsRefused call x cs → W' n x → Fate n x cs
  walk [] n x f w = stays n (omega arith) w (λ i. elim i as (λ j. j ≤ 0 → Standing shows S W (after_calls call x (take j []))) [
    | zero ↦ λ h. (n, w)
    | suc j ↦ λ h. absurd (omega arith)
  ])
  walk (b ∷ cs) n x f w = one_call n x w b cs f.0 (λ m v. walk cs m (call x b).1 f.1 v)

  -- where enough calls count, the end of the wait is among them
  pub comes_in : (cs : List Call) (n : ℕ) (x : X) → SetupsRefused call x cs → W' n x → n ≤ counted x cs
      → Comes call shows S W E (λ t. counted x (take t cs)) n x cs
  comes_in cs n x f w h = go (walk cs n x f w)
    where
      go : Fate n x cs → Comes call shows S W E (λ t. counted x (take t cs)) n x cs
      go (comes o) = o
      go (stays m i v held) = absurd (omega (arith, some_left m (after_calls call x cs) v))

  -- ---- rounds among what is done, each with a call that counts while it waits

  abbrev pub Counts : Carried → Type 0
  Counts d = (n : ℕ) (x : X) → W' n x → bit d.a_round ≤ counted x d.calls

  module _ (d : Carried) (ds : List Carried) (n : ℕ) (x : X) where
    abbrev first : List Call
    first = d.calls

    abbrev rest : List Call
    rest = calls_of ds

    abbrev ComesHere : Type 0
    ComesHere = Comes call shows S W E (rounds_before (d ∷ ds)) n x (first ++ rest)

    -- in the first deed
    now_comes : 1 ≤ n → Comes call shows S W E (λ t. counted x (take t first)) n x first → ComesHere
    now_comes some o =
        let before : (i : ℕ) → i ≤ o.moment → take i (first ++ rest) ≡ take i first =
        λ i h. take-append-le i first rest (omega (arith, o.among)) in
        record {
          moment = o.moment;
          among = omega (arith, o.among, length-append first rest);
          soon = rw (ltb_is o.moment (length first) o.among) some;
          found = o.found;
          shown = rw (before o.moment (omega arith)) o.shown;
          that = o.that;
          is_that = get_or-append first rest (act (ready 0)) o.moment o.among ∙ o.is_that;
          event = o.event;
          until_then = λ i h. rw (before i h) (o.until_then i h);
        }

    -- after it
    later_comes : (m : ℕ) → bit d.a_round + m ≤ n
        → ((i : ℕ) → i ≤ length first → Standing shows S W (after_calls call x (take i first)))
        → Comes call shows S W E (rounds_before ds) m (after_calls call x first) rest → ComesHere
    later_comes m h held o =
        let t : ℕ = length first + o.moment in
        let back : t - length first ≡ o.moment = omega arith in
        let upto : (j : ℕ) → after_calls call x (take (length first + j) (first ++ rest)) ≡ after_calls call (after_calls call x first) (take j rest) =
        λ j. ap (after_calls call x) (take-append-add first rest j) ∙ calls_append call x first (take j rest) in
        record {
          moment = t;
          among = omega (arith, o.among, length-append first rest);
          soon = rw (ltb_not t (length first) (omega arith), back) (omega (arith, o.soon));
          found = o.found;
          shown = ap shows (upto o.moment) ∙ o.shown;
          that = o.that;
          is_that = get_or-append-add first rest o.moment (act (ready 0)) ∙ o.is_that;
          event = o.event;
          until_then = λ i l. go i l (dec_le i (length first)) upto;
        }
      where
        go : (i : ℕ) → i ≤ length first + o.moment → Dec (i ≤ length first)
            → ((j : ℕ) → after_calls call x (take (length first + j) (first ++ rest)) ≡ after_calls call (after_calls call x first) (take j rest))
            → Standing shows S W (after_calls call x (take i (first ++ rest)))
        go i l (yes k) upto = rw (take-append-le i first rest k) (held i k)
        go i l (no k) upto =
            let j : ℕ = i - length first in
            let is : i ≡ length first + j = omega arith in
            rw (is, upto j) (o.until_then j (omega arith))

  pub comes_in_rounds : (ds : List Carried) → All Counts ds → (n : ℕ) (x : X) → SetupsRefused call x (calls_of ds) → W' n x → n ≤ rounds_in ds
      → Comes call shows S W E (rounds_before ds) n x (calls_of ds)
  comes_in_rounds [] k n x f w h = absurd (omega (arith, some_left n x w))
  comes_in_rounds (d ∷ ds) k n x f w h =
      let parts = refused_parts call x d.calls (calls_of ds) f in
      go (walk d.calls n x parts.0 w) (λ m v l. comes_in_rounds ds k.1 m (after_calls call x d.calls) parts.1 v l)
    where
      go : Fate n x d.calls
          → ((m : ℕ) → W' m (after_calls call x d.calls) → m ≤ rounds_in ds
          → Comes call shows S W E (rounds_before ds) m (after_calls call x d.calls) (calls_of ds))
          → Comes call shows S W E (rounds_before (d ∷ ds)) n x (d.calls ++ calls_of ds)
      go (comes o) rec = now_comes d ds n x (some_left n x w) o
      go (stays m i v held) rec =
          let one = k.0 n x w in
          later_comes d ds n x m (omega arith) held (rec m v (omega arith))
