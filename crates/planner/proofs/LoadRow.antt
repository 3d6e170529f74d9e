-- The loads of a row: packed and unpacked, read by their numbers, worked off by conservative, and noted one by one.
use Prim.Native.Nat.{ℕ, zero, suc, ◌+◌, ◌*◌, ◌/◌, ◌%◌, ◌<◌, ◌≤◌}
use native.Mathlib.Omega.{arith}
use native.Mathlib.Numerals.{add-one}
use mathlib.Core.Path.{◌≡◌, refl, sym, ap, ◌∙◌}
use mathlib.Core.List.{List, [], ◌∷◌, map}
use lib.ListN.{length, get_or, take, drop, set, length-map, length-set, length-take, drop_of_length-le, get_or-map}
use lib.Seq.{drop-cons, drop-drop, get_or-take, length-take-le, set_out, take-suc-set}
use Rattle.std.specs.Prelude.{Option, Some, None}
use Rattle.rules.specs.declared.Load.{Load}
use Rattle.rules.specs.declared.Happening.{Happening}
use Rattle.rules.specs.declared.Happening.TheVariants.{Draw, Wait}
use Rattle.rules.specs.declared.TickRecord.{TickRecord}
use Rattle.rules.specs.Job.{Call, job_of, most_draws}
use Rattle.rules.specs.Display.{load, State, Loaded, loaded}
use Rattle.rules.specs.Plans.{earliest, opt, run_plan, begun_in}
use Rattle.laws.proofs.Rows.{length-snoc}
use Rattle.display.specs.declared.state.Display.{Display}
use Rattle.display.specs.View.{History, history_begun, history_made, onward}
use Rattle.choice.specs.Asks.{order_asks}
use Rattle.planner.specs.Loads.{load_of, loads_in, first_loads, noted_load}
use Rattle.planner.specs.Runs.{Orders}

-- A number packed from the four numbers of a load holds this load.
pub packs : (t d q x n : ℕ) → d < 65536 → q < 256 → x < 65536 → n ≡ ((t * 65536 + d) * 256 + q) * 65536 + x → load_of n ≡ loaded t d q x
packs t d q x n short_draw short_slot short_symbol is =
    let tick : n / 65536 / 256 / 65536 ≡ t = omega arith in
    let draw : n / 65536 / 256 % 65536 ≡ d = omega arith in
    let slot : n / 65536 % 256 ≡ q = omega arith in
    let symbol : n % 65536 ≡ x = omega arith in
    rw (tick, draw, slot, symbol)

-- ---- Reading

pub load_first : (count at : ℕ) (row : List ℕ) → at < count → get_or (first_loads count row) at (load_of 0) ≡ load_of (get_or row at 0)
load_first count at row within = get_or-take count (loads_in row) at (load_of 0) within ∙ get_or-map load_of row at 0

pub length-first : (count : ℕ) (row : List ℕ) → count ≤ length row → length (first_loads count row) ≡ count
length-first count row there =
    let all : length (loads_in row) ≡ length row = length-map row load_of in
    length-take-le count (loads_in row) (omega arith)

-- The order of a number is the load of that number, and past the last there is none.
pub order_there : (count at : ℕ) (row : List ℕ) (t d q x : ℕ) (s : State) → at < count → count ≤ length row
    → loaded t d q x ≡ load_of (get_or row at 0)
    → order_asks (Some (record { miss = d; load = load q x })) s ≡ earliest (drop at (first_loads count row)) s
order_there count at row t d q x s within there is =
    let inside : at < length (first_loads count row) = let all = length-first count row there in omega arith in
    ap (λ (e : Loaded). earliest (e ∷ drop (suc at) (first_loads count row)) s) (is ∙ sym (load_first count at row within))
    ∙ ap (λ (l : List Loaded). earliest l s) (sym (drop-cons (first_loads count row) at (load_of 0) inside))

pub order_none : (count at : ℕ) (row : List ℕ) (s : State) → count ≤ at → order_asks None s ≡ earliest (drop at (first_loads count row)) s
order_none count at row s over =
    let few = length-take count (loads_in row) in
    ap (λ (l : List Loaded). earliest l s) (sym (drop_of_length-le (first_loads count row) {i = at} (omega arith)))

-- ---- Noting

map_set : {A B : Type 0} (f : A → B) (l : List A) (i : ℕ) (a : A) → map f (set l i a) ≡ set (map f l) i (f a)
map_set f [] i a = refl
map_set f (x ∷ l) zero a = refl
map_set f (x ∷ l) (suc i) a = ap (λ m. f x ∷ m) (map_set f l i a)

-- What a tick begins is noted: no load, one past the last place, or one at its place.
module _ (b : Option Load) (tick draw at : ℕ) (row : List ℕ) where
  pub noted_none : b ≡ None → loads_in row ≡ noted_load b tick draw at (loads_in row)
  noted_none e = rw e

  pub noted_one : (q x n : ℕ) → b ≡ Some (load q x) → load_of n ≡ loaded tick draw q x
      → loads_in (set row at n) ≡ noted_load b tick draw at (loads_in row)
  noted_one q x n e is = rw e (map_set load_of row at n ∙ ap (set (loads_in row) at) is)

  pub noted_past : (q x : ℕ) → b ≡ Some (load q x) → length row ≤ at → loads_in row ≡ noted_load b tick draw at (loads_in row)
  noted_past q x e over =
      let all : length (loads_in row) ≡ length row = length-map row load_of in
      rw e (sym (set_out (loads_in row) at (loaded tick draw q x) (omega arith)))

length-noted : (b : Option Load) (tick draw at : ℕ) (l : List Loaded) → length (noted_load b tick draw at l) ≡ length l
length-noted None tick draw at l = refl
length-noted (Some this) tick draw at l = length-set l at (loaded tick draw this.slot this.symbol)

-- What is noted at a place changes nothing after it.
drop_past : (m n : ℕ) (l : List Loaded) (e : Loaded) → drop (suc m) (take n (set l m e)) ≡ drop (suc m) (take n l)
drop_past m zero l e = refl
drop_past m (suc n) [] e = refl
drop_past zero (suc n) (x ∷ l) e = refl
drop_past (suc m) (suc n) (x ∷ l) e = drop_past m n l e

-- ---- The row while a run is under way

-- The row holds the loads begun so far, as long as there is a place for each, and after them the orders that are still to come.
pub record RowKept (plan : ℕ) (asked : Call) (orders : ℕ) (begun : List Loaded) (count : ℕ) (row : List ℕ) : Type 0 where
  pub noted : count ≤ most_draws → begun ≡ first_loads count row
  pub to_come : plan ≡ 1 → drop count (first_loads orders row) ≡ drop count (begun_in (run_plan (job_of asked) (opt (job_of asked))))
  pub places : length row ≡ most_draws

made_begun : (d : Display) (hp : Happening) (h : History) → (history_made d hp h).begun ≡ h.begun
made_begun d (Draw q) h = refl
made_begun d (Wait cause) h = refl

module _ (plan : ℕ) (asked : Call) (orders : ℕ) where
  pub row_start : (row : List ℕ) → Orders plan asked orders row → length row ≡ most_draws → RowKept plan asked orders [] 0 row
  row_start row ordered places = record { noted = λ few. refl; to_come = ordered.of_opt; places = places }

  module _ (d : Display) (h : History) (row row' : List ℕ) (many : length h.begun ≡ d.loads)
      (kept : RowKept plan asked orders h.begun d.loads row) where
    row_more : (b : Option Load) (m : ℕ) → loads_in row' ≡ noted_load b d.tick d.next d.loads (loads_in row)
        → length (history_begun d b h).begun ≡ m
        → RowKept plan asked orders (history_begun d b h).begun m row'
    row_more None m e many' =
        let same : m ≡ d.loads = sym many' ∙ many in
        let places : length row' ≡ length row = sym (length-map row' load_of) ∙ ap length e ∙ length-map row load_of in
        record {
          noted = λ few. rw (same, e) (kept.noted (omega arith));
          to_come = λ one. rw (same, e) (kept.to_come one);
          places = places ∙ kept.places;
        }
    row_more (Some this) m e many' =
        let l = loaded d.tick d.next this.slot this.symbol in
        let same : m ≡ suc d.loads = sym many' ∙ length-snoc h.begun l ∙ rw (many, add-one) in
        let all : length (loads_in row) ≡ length row = length-map row load_of in
        let places : length row' ≡ length row = sym (length-map row' load_of) ∙ ap length e ∙ length-set (loads_in row) d.loads l ∙ all in
        let long : length row ≡ most_draws = kept.places in
        let on : (r : List Loaded) → drop 1 (drop d.loads r) ≡ drop (suc d.loads) r = λ r. drop-drop 1 d.loads r ∙ rw add-one in
        record {
          noted = λ few. rw (same, e, kept.noted (omega arith)) (sym (take-suc-set (loads_in row) d.loads l (omega arith)));
          to_come = λ one.
              rw (same, e)
              (drop_past d.loads orders (loads_in row) l ∙ sym (on (first_loads orders row))
              ∙ ap (λ (r : List Loaded). drop 1 r) (kept.to_come one) ∙ on (begun_in (run_plan (job_of asked) (opt (job_of asked)))));
          places = places ∙ long;
        }

    -- The same over a whole tick.
    pub row_on : (t : TickRecord) (m : ℕ) → loads_in row' ≡ noted_load t.begun d.tick d.next d.loads (loads_in row)
        → length (onward d t h).begun ≡ m
        → RowKept plan asked orders (onward d t h).begun m row'
    row_on t m e many' =
        let same : (onward d t h).begun ≡ (history_begun d t.begun h).begun = made_begun d t.happening (history_begun d t.begun h) in
        rw same (row_more t.begun m e (ap length (sym same) ∙ many'))
