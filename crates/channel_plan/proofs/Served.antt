-- What an event does to the rows that serve the notes of a source.
use Rattle.std.proofs.Common.{◌≡◌, ◌≤◌, ◌<◌, ◌+◌, ◌++◌, ℕ, zero, suc, List, [], ◌∷◌, Bool, true, false, cond, ◌&&◌, Option, Some, None, length, take, filter, get_or, set, nat_eq, refl, sym, ap, ◌∙◌, subst, arith, inl, inr}
use Rattle.std.specs.Prelude.{IfNone, unwrap_or, slice_get}
use Rattle.std.specs.List.{AllByRecursion}
use Rattle.std.proofs.lemmas.Bool.{cases_lt, both_ways, eqb-true, eq-eqb, and_parts, and_from, or_cases, cond-true, cond-false, false_from_ne_true}
use Rattle.std.proofs.lemmas.List.{length-map}
use Rattle.mt_base.specs.Midi.{MidiEvent}
use Rattle.midi_model.specs.Order.{AreInOrder}
use Rattle.retune_model.specs.Options.{Options, bends_notes}
use Rattle.retune_model.specs.Ports.{port_at, of_port, events_on, is_reset_at}
use Rattle.retune_model.specs.PlaysTheSame.{begins_note}
use Rattle.retune_model.specs.Faults.{Targets, is_part}
use Rattle.retune_model.specs.Pairs.{Pair, is_same_pair}
use Rattle.retune_model.specs.Rests.{begun_at}
use Rattle.retune_model.specs.Runs.{since, begins}
use Rattle.retune_model.specs.PortNeed.{AreParts, pairs_on}
use Rattle.channel_model.specs.Choice.{beginning_at}
use Rattle.channel_model.specs.Rows.{channel_by}
use Rattle.plan_laws.specs.RunCounts.{RunIsCounted, RunIsOfPart, BeginsOfPart}
use Rattle.channel_plan.specs.Passing.{channels_in}
use Rattle.channel_plan.specs.Told.{or_of, of_note}
use Rattle.channel_plan.specs.Planned.{note_ons, notes_to, runs_to, runs_on, run_told, place_among}
use Rattle.channel_plan.specs.Seeing.{runs_in}
use Rattle.channel_plan.specs.Stepping.{StandsAt, IsKept, StandsLeft, BeginsOn, AgreesWith, IsPlaced, pairs_by}
use Rattle.channel_plan.specs.Serving.{Head, head, heads, pairs_of, serves, serves_part, some_serves, IsApart, AreApart, channel_of_note, place_by, Agrees, number_on, IsReady, HasGiven, RowStands, RowKept, RowFreed, BeginsNote, IsGiven}
use Rattle.channel_plan.specs.declared.plan.Given.{Given}
use Rattle.channel_plan.specs.declared.rowing.Used.{Used}
use Rattle.channel_plan.specs.declared.rowing.Placed.{Placed}
use Rattle.channel_plan.specs.declared.choice.Place.{Place}

-- ---- what stays of a row

pub head_same : (u v : Used) → v.port ≡ u.port → v.part ≡ u.part → v.channels ≡ u.channels → head v ≡ head u
head_same u v port part channels =
    ap (λ z. record { port = z; part = v.part; channels = v.channels.items }) port
    ∙ ap (λ q. record { port = u.port; part = q; channels = v.channels.items }) part
    ∙ ap (λ cs. record { port = u.port; part = u.part; channels = cs.items }) channels

pub runs_long : (u v : List Place) → runs_in v ≡ runs_in u → length v ≡ length u
runs_long u v e = sym (length-map v (λ p. p.run)) ∙ ap length e ∙ length-map u (λ p. p.run)

module _ (o : Options) (table : Targets) (es : List MidiEvent) where
  ready_still : (u v : Used) → head v ≡ head u → length v.places.items ≡ length u.places.items
      → IsReady o table es (head u) (length u.places.items) → IsReady o table es (head v) (length v.places.items)
  ready_still u v same long r = subst (λ h. IsReady o table es h (length v.places.items)) (sym same)
      (subst (λ n. IsReady o table es (head u) n) (sym long) r)

  pub kept_row : (gs : List Given) (k : ℕ) (u v : Used) → head v ≡ head u → length v.places.items ≡ length u.places.items
      → RowStands o table es gs k u
      → ((row : ℕ → ℕ) → StandsAt o table es row (number_on o table es u.port) k u → IsKept o table es row (number_on o table es u.port) k v)
      → RowKept o table es gs k v
  kept_row gs k u v same long was step = record {
    ready = ready_still u v same long was.ready;
    given = subst (λ h. HasGiven o table es gs k h) (sym same) was.given;
    kept = subst (λ (h : Head). (row : ℕ → ℕ) → Agrees o es gs h.channels k row → IsKept o table es row (number_on o table es h.port) k v) (sym same)
        (λ row agrees. step row (was.stands row agrees));
  }

  pub freed_row : (gs : List Given) (k : ℕ) (u v : Used) → head v ≡ head u → length v.places.items ≡ length u.places.items → RowKept o table es gs k u
      → ((row : ℕ → ℕ) → IsKept o table es row (number_on o table es u.port) k u → is_reset_at (of_port u.port es) (suc k) ≡ false
      → StandsLeft o table es row (number_on o table es u.port) k v)
      → ((row : ℕ → ℕ) → IsKept o table es row (number_on o table es u.port) k u
      → begun_at o (channels_in o u.part) table (port_at es u.port) (suc k) ≡ [] → StandsAt o table es row (number_on o table es u.port) (suc k) v)
      → RowFreed o table es gs k v
  freed_row gs k u v same long was left stays = record {
    ready = ready_still u v same long was.ready;
    given = subst (λ h. HasGiven o table es gs k h) (sym same) was.given;
    left = subst (λ (h : Head). (row : ℕ → ℕ) → Agrees o es gs h.channels k row → is_reset_at (of_port h.port es) (suc k) ≡ false
        → StandsLeft o table es row (number_on o table es h.port) k v) (sym same)
        (λ row agrees plain. left row (was.kept row agrees) plain);
    stays = subst (λ (h : Head). (row : ℕ → ℕ) → Agrees o es gs h.channels k row
        → begun_at o (channels_in o h.part) table (port_at es h.port) (suc k) ≡ []
        → StandsAt o table es row (number_on o table es h.port) (suc k) v) (sym same)
        (λ row agrees none. stays row (was.kept row agrees) none);
  }

-- ---- notes, as they are counted

taken_fewer : (f : MidiEvent → Bool) (es : List MidiEvent) (b k : ℕ) → b ≤ k → length (filter f (take b es)) ≤ length (filter f (take k es))
taken_fewer f [] zero k le = omega arith
taken_fewer f [] (suc b) zero le = absurd (omega (arith, le))
taken_fewer f [] (suc b) (suc k) le = omega arith
taken_fewer f (e ∷ es) zero k le = omega arith
taken_fewer f (e ∷ es) (suc b) zero le = absurd (omega (arith, le))
taken_fewer f (e ∷ es) (suc b) (suc k) le = pick (f e) (taken_fewer f es b k (omega (arith, le)))
  where
    pick : (t : Bool) → length (filter f (take b es)) ≤ length (filter f (take k es))
        → length (cond t (e ∷ filter f (take b es)) (filter f (take b es))) ≤ length (cond t (e ∷ filter f (take k es)) (filter f (take k es)))
    pick true h = omega (arith, h)
    pick false h = h

pub fewer_notes : (o : Options) (es : List MidiEvent) (b k : ℕ) → b ≤ k → notes_to o es b ≤ notes_to o es k
fewer_notes o es b k le = taken_fewer (λ e. begins_note (is_part o) e.what) es b k le

get_same : {A : Type 0} (xs : List A) (y : A) (n : ℕ) → n < length xs → slice_get (xs ++ y ∷ []) n ≡ slice_get xs n
get_same [] y n l = absurd (omega (arith, l))
get_same (x ∷ xs) y zero l = refl
get_same (x ∷ xs) y (suc n) l = get_same xs y n (omega (arith, l))

get_last : {A : Type 0} (xs : List A) (y : A) → slice_get (xs ++ y ∷ []) (length xs) ≡ Some y
get_last [] y = refl
get_last (x ∷ xs) y = get_last xs y

pub note_same : {A : Type 0} (xs : List A) (y : A) (n : ℕ) → n ≤ length xs → of_note (xs ++ y ∷ []) n ≡ of_note xs n
note_same xs y zero l = refl
note_same xs y (suc n) l = get_same xs y n (omega (arith, l))

pub note_last : {A : Type 0} (xs : List A) (y : A) (n : ℕ) → n ≡ suc (length xs) → of_note (xs ++ y ∷ []) n ≡ Some y
note_last xs y n e = ap (of_note (xs ++ y ∷ [])) e ∙ get_last xs y

pub channel_same : (gs : List Given) (g : Given) (n : ℕ) → n ≤ length gs → channel_of_note (gs ++ g ∷ []) n ≡ channel_of_note gs n
channel_same gs g n l = ap (or_of None (λ (x : Given). Some x.channel)) (note_same gs g n l)

pub channel_last : (gs : List Given) (g : Given) (n : ℕ) → n ≡ suc (length gs) → channel_of_note (gs ++ g ∷ []) n ≡ Some g.channel
channel_last gs g n e = ap (or_of None (λ (x : Given). Some x.channel)) (note_last gs g n e)

pub agrees_before : (o : Options) (es : List MidiEvent) (gs : List Given) (g : Given) (used : List ℕ) (k : ℕ) (row : ℕ → ℕ)
    → length gs ≡ notes_to o es k
    → Agrees o es (gs ++ g ∷ []) used (suc k) row → Agrees o es gs used k row
agrees_before o es gs g used k row count agrees b le =
    let fewer = fewer_notes o es b k le in
    agrees b (omega (arith, le))
    ∙ ap (λ x. place_among used (unwrap_or x 0)) (channel_same gs g (notes_to o es b) (omega (arith, fewer, count)))

-- ---- which notes a row serves

serves_in : (o : Options) (q : Option ℕ) (c : ℕ) → is_part o c ≡ true → serves_part q c ≡ true → channels_in o q c ≡ true
serves_in o None c part h = part
serves_in o (Some d) c part h = eq-eqb c d (sym (eqb-true d c h))

in_serves : (o : Options) (q : Option ℕ) (c : ℕ) → channels_in o q c ≡ true → serves_part q c ≡ true
in_serves o None c h = refl
in_serves o (Some d) c h = eq-eqb d c (sym (eqb-true c d h))

one_same : (p q : Pair) → p ∷ [] ≡ q ∷ [] → p ≡ q
one_same p q e = cc

-- ---- a note begins

module _ (o : Options) (table : Targets) (es : List MidiEvent) (gs : List Given) (k : ℕ) (e : MidiEvent) (p : Pair) (bends : bends_notes o.route
    ≡ true)
    (begins_here : BeginsNote o table es k e p) (count : length gs ≡ notes_to o es k) where
  -- a row that doesn't serve it
  other_none : (u : Used) → AreParts o (channels_in o u.part) → serves (head u) p.part.port p.part.channel ≡ false
      → begun_at o (channels_in o u.part) table (port_at es u.port) (suc k) ≡ []
  other_none u parts not_served =
      begins_here.begun bends (channels_in o u.part) u.port parts
      ∙ cond-false (nat_eq p.part.port u.port && channels_in o u.part p.part.channel) (p ∷ []) []
      (false_from_ne_true (nat_eq p.part.port u.port && channels_in o u.part p.part.channel) (λ h.
      let both = and_parts (nat_eq p.part.port u.port) (channels_in o u.part p.part.channel) h in
      both_ways (serves (head u) p.part.port p.part.channel) not_served
      (and_from (nat_eq u.port p.part.port) (serves_part u.part p.part.channel)
      (eq-eqb u.port p.part.port (sym (eqb-true p.part.port u.port both.0))) (in_serves o u.part p.part.channel both.1))))

  given_old : (g : Given) (h : Head) (row : ℕ → ℕ) → HasGiven o table es gs k h → Agrees o es (gs ++ g ∷ []) h.channels (suc k) row
      → (j : ℕ) (q : Pair) → j ≤ k → begun_at o (channels_in o h.part) table (port_at es h.port) j ≡ q ∷ []
      → channel_of_note (gs ++ g ∷ []) (notes_to o es j) ≡ Some (channel_by h.channels row (pairs_of o table es h) j q)
  given_old g h row has agrees j q le begun =
      let fewer = fewer_notes o es j k le in
      channel_same gs g (notes_to o es j) (omega (arith, fewer, count))
      ∙ has row (agrees_before o es gs g h.channels k row count agrees) j q le begun

  pub other_row : (u : Used) (g : Given) → RowFreed o table es gs k u → serves (head u) p.part.port p.part.channel ≡ false
      → RowStands o table es (gs ++ g ∷ []) (suc k) u
  other_row u g freed not_served = record {
    ready = freed.ready;
    given = λ row agrees j q le begun. elim (cases_lt j (suc k)) [
      | inl l ↦ given_old g (head u) row freed.given agrees j q (omega (arith, l)) begun
      | inr l ↦ (let s : j ≡ suc k = omega (arith, l, le) in
          let x : [] ≡ q ∷ [] = sym none ∙ ap (begun_at o (channels_in o u.part) table (port_at es u.port)) (sym s) ∙ begun in absurd cc)
    ];
    stands = λ row agrees. freed.stays row (agrees_before o es gs g u.channels.items k row count agrees) none;
  }
    where
      none : begun_at o (channels_in o u.part) table (port_at es u.port) (suc k) ≡ []
      none = other_none u freed.ready.of.parts not_served

  -- the row that serves it
  module _ (u : Used) (freed : RowFreed o table es gs k u) (served : serves (head u) p.part.port p.part.channel ≡ true) where
    port_is : u.port ≡ p.part.port
    port_is = eqb-true u.port p.part.port (and_parts (nat_eq u.port p.part.port) (serves_part u.part p.part.channel) served).0

    in_row : channels_in o u.part p.part.channel ≡ true
    in_row = serves_in o u.part p.part.channel begins_here.part (and_parts (nat_eq u.port p.part.port) (serves_part u.part p.part.channel) served).1

    begun_here : begun_at o (channels_in o u.part) table (port_at es u.port) (suc k) ≡ p ∷ []
    begun_here = begins_here.begun bends (channels_in o u.part) u.port freed.ready.of.parts
        ∙ cond-true (nat_eq p.part.port u.port && channels_in o u.part p.part.channel) (p ∷ []) []
        (and_from (nat_eq p.part.port u.port) (channels_in o u.part p.part.channel) (eq-eqb p.part.port u.port (sym port_is)) in_row)

    pub begins_on : (row : ℕ → ℕ) → Agrees o es gs u.channels.items k row → BeginsOn o table es row (number_on o table es u.port) k e p u
    begins_on row agrees = record {
      of = freed.ready.of;
      comes = begins_here.comes;
      left = freed.left row agrees (begins_here.plain u.port);
      plain = begins_here.plain u.port;
      begun = begun_here;
    }

    -- as far as it was given
    abbrev pub so_far : ℕ → ℕ
    so_far b = place_by o es gs u.channels.items b

    pub begins_now : BeginsOn o table es so_far (number_on o table es u.port) k e p u
    begins_now = begins_on so_far (λ b le. refl)

    module _ (one : RunIsCounted) (run_part : RunIsOfPart) (begins_part : BeginsOfPart) (order : AreInOrder 0 es) (next : ℕ)
        (next_is : next ≡ runs_on o table es p.part.port k) (v : Used) (same : head v ≡ head u) (long : length v.places.items ≡ length u.places.items)
        (x : Placed) (channel : ℕ) (new_next : x.is_new ≡ true → x.run ≡ next) (channel_is : get_or u.channels.items x.place 0 ≡ channel)
        (within : x.place < length u.channels.items)
        (begins_is : (row number : ℕ → ℕ) → BeginsOn o table es row number k e p u → begins is_same_pair (pairs_by o table es u) k p ≡ x.is_new)
        (placed : (row number : ℕ → ℕ) → BeginsOn o table es row number k e p u → AgreesWith row number k x
        → IsPlaced o table es row number k p x v) where
      abbrev pub given_now : Given
      given_now = record { port = p.part.port; channel = channel }

      last_is : channel_of_note (gs ++ given_now ∷ []) (notes_to o es (suc k)) ≡ Some channel
      last_is = channel_last gs given_now (notes_to o es (suc k)) (begins_here.counted ∙ ap suc (sym count))

      placed_by : (row : ℕ → ℕ) → Agrees o es (gs ++ given_now ∷ []) u.channels.items (suc k) row
          → IsPlaced o table es row (number_on o table es u.port) k p x v
      placed_by row agrees = placed row (number_on o table es u.port) (begins_on row
          (agrees_before o es gs given_now u.channels.items k row count agrees))
          (λ new. (
            agrees (suc k) (omega arith) ∙ ap (λ y. place_among u.channels.items (unwrap_or y 0)) last_is
                ∙ ap (place_among u.channels.items) (sym channel_is) ∙ freed.ready.own x.place within,
            ap (λ z. runs_on o table es z k) port_is ∙ sym next_is ∙ sym (new_next new),
          ))

      row_stands : RowStands o table es (gs ++ given_now ∷ []) (suc k) v
      row_stands = record {
        ready = ready_still o table es u v same long freed.ready;
        given = subst (λ h. HasGiven o table es (gs ++ given_now ∷ []) (suc k) h) (sym same) (λ row agrees j q le begun. elim (cases_lt j (suc k)) [
          | inl l ↦ given_old given_now (head u) row freed.given agrees j q (omega (arith, l)) begun
          | inr l ↦ (let s : j ≡ suc k = omega (arith, l, le) in
              let r : q ≡ p = one_same q p (sym begun ∙ ap (begun_at o (channels_in o u.part) table (port_at es u.port)) s ∙ begun_here) in
              ap (λ n. channel_of_note (gs ++ given_now ∷ []) (notes_to o es n)) s
              ∙ last_is
              ∙ ap Some (sym channel_is)
              ∙ ap (λ n. Some (get_or u.channels.items n 0)) (sym (placed_by row agrees).place
              ∙ ap (λ h. row (since is_same_pair (pairs_of o table es h) p (suc k))) same)
              ∙ ap (λ y. Some (channel_by u.channels.items row (pairs_of o table es (head u)) (suc k) y)) (sym r)
              ∙ ap (λ n. Some (channel_by u.channels.items row (pairs_of o table es (head u)) n q)) (sym s))
        ]);
        stands = subst (λ (h : Head). (row : ℕ → ℕ) → Agrees o es (gs ++ given_now ∷ []) h.channels (suc k) row
            → StandsAt o table es row (number_on o table es h.port) (suc k) v) (sym same)
            (λ row agrees. (placed_by row agrees).stands);
      }

      abbrev all_at : ℕ → List Pair
      all_at = pairs_on o (is_part o) table es p.part.port

      run_is : x.run ≡ run_told o table es p.part.port (suc k) p
      run_is =
          sym (placed_by (place_by o es (gs ++ given_now ∷ []) u.channels.items) (λ b le. refl)).run
          ∙ ap (λ h. number_on o table es u.port (since is_same_pair (pairs_of o table es h) p (suc k))) same
          ∙ ap (number_on o table es u.port) (run_part o (channels_in o u.part) table es u.port
          (suc k) p freed.ready.of.parts order begins_here.within (sym port_is) in_row)
          ∙ ap (λ z. number_on o table es z (since is_same_pair (pairs_on o (is_part o) table es z) p (suc k))) port_is
          ∙ ap (number_on o table es p.part.port) (sym (cond-true (bends_notes o.route) (since is_same_pair all_at p (suc k)) (suc k) bends))

      new_is : begins is_same_pair all_at k p ≡ x.is_new
      new_is =
          ap (λ z. begins is_same_pair (pairs_on o (is_part o) table es z) k p) (sym port_is)
          ∙ sym (begins_part o (channels_in o u.part) table es u.port k p freed.ready.of.parts order begins_here.within (sym port_is) in_row)
          ∙ begins_is so_far (number_on o table es u.port) begins_now

      counted_is : runs_on o table es p.part.port (suc k) ≡ cond x.is_new (suc (runs_on o table es p.part.port k)) (runs_on o table es p.part.port k)
      counted_is = bent (suc k) ∙ pick x.is_new (one o table es p.part.port k p freed.ready.of.sound here ∙ ap (λ b. cond b 1 0) new_is)
        where
          here : begun_at o (is_part o) table (port_at es p.part.port) (suc k) ≡ p ∷ []
          here = begins_here.begun bends (is_part o) p.part.port (λ c t. t)
              ∙ cond-true (nat_eq p.part.port p.part.port && is_part o p.part.channel) (p ∷ []) []
              (and_from (nat_eq p.part.port p.part.port) (is_part o p.part.channel) (eq-eqb p.part.port p.part.port refl) begins_here.part)

          bent : (j : ℕ) → runs_on o table es p.part.port j ≡ runs_to all_at j
          bent j = cond-true (bends_notes o.route) (runs_to all_at j) (length (note_ons o (events_on p.part.port (take j es)))) bends

          pick : (b : Bool) → length (beginning_at all_at k) ≡ cond b 1 0
              → runs_to all_at k + length (beginning_at all_at k) ≡ cond b (suc (runs_on o table es p.part.port k)) (runs_on o table es p.part.port k)
          pick true h = (let s = bent k in omega (arith, s, h))
          pick false h = (let s = bent k in omega (arith, s, h))

      pub row_given : RowStands o table es (gs ++ given_now ∷ []) (suc k) v
          × IsGiven o table es k p (record { channel = channel; run = x.run; is_new = x.is_new })
      row_given = (row_stands, record { run = run_is; count = counted_is; own = λ not_bent. absurd (both_ways (bends_notes o.route) not_bent bends) })

-- ---- all rows

pub if_none : {A Q : Type 0} (x : Option A) → x ≡ None → Q → IfNone x Q
if_none {A} {Q} x e q = subst (λ y. IfNone y Q) (sym e) q

module _ (P Q : Used → Type 0) (z c : ℕ) (others : (u : Used) → P u → serves (head u) z c ≡ false → Q u) where
  none_more : (h : Head) (rows : List Used) → serves h z c ≡ true → AllByRecursion (IsApart h) (heads rows) → AllByRecursion P rows
      → AllByRecursion Q rows
  none_more h [] served apart all = tt
  none_more h (u ∷ us) served apart all = (others u all.0 (apart.0 z c served), none_more h us served apart.1 all.1)

  apart_at : (h : Head) (us : List Used) (i : ℕ) (d : Used) → i < length us → AllByRecursion (IsApart h) (heads us) → IsApart h (head (get_or us i d))
  apart_at h [] i d l all = absurd (omega (arith, l))
  apart_at h (u ∷ us) zero d l all = all.0
  apart_at h (u ∷ us) (suc i) d l all = apart_at h us i d (omega (arith, l)) all.1

  pub one_given : (rows : List Used) (i : ℕ) (d v : Used) → i < length rows → AreApart (heads rows) → serves (head (get_or rows i d)) z c ≡ true
      → AllByRecursion P rows → Q v → AllByRecursion Q (set rows i v)
  one_given [] i d v l apart served all q = absurd (omega (arith, l))
  one_given (u ∷ us) zero d v l apart served all q = (q, none_more (head u) us served apart.0 all.1)
  one_given (u ∷ us) (suc i) d v l apart served all q = (
    others u all.0 (false_from_ne_true (serves (head u) z c) (λ h. both_ways (serves (head (get_or us i d)) z c)
        (apart_at (head u) us i d (omega (arith, l)) apart.0 z c h) served)),
    one_given us i d v (omega (arith, l)) apart.1 served all.1 q,
  )

none_serves : (rows : List Used) (z c : ℕ) → AllByRecursion (λ (u : Used). serves (head u) z c ≡ false) rows → some_serves (heads rows) z c ≡ true → ⊥
none_serves [] z c none some = both_ways false refl some
none_serves (u ∷ us) z c none some = elim (or_cases (serves (head u) z c) (some_serves (heads us) z c) some) [
  | inl here ↦ both_ways (serves (head u) z c) none.0 here
  | inr later ↦ none_serves us z c none.1 later
]

-- where there are no rows, since no note is bent
pub own_given : (o : Options) (table : Targets) (es : List MidiEvent) (gs : List Given) (k : ℕ) (e : MidiEvent) (p : Pair) (g : Given) (next : ℕ)
    (rows : List Used)
    → BeginsNote o table es k e p → next ≡ runs_on o table es p.part.port k
    → (0 < length rows → bends_notes o.route ≡ true)
    → (bends_notes o.route ≡ true → some_serves (heads rows) p.part.port p.part.channel ≡ true)
    → AllByRecursion (λ (u : Used). serves (head u) p.part.port p.part.channel ≡ false) rows
    → AllByRecursion (RowStands o table es (gs ++ g ∷ []) (suc k)) rows
    × IsGiven o table es k p (record { channel = p.part.channel; run = next; is_new = true })
own_given o table es gs k e p g next rows begins next_is bends served none = pick (bends_notes o.route) refl
  where
    empty : (us : List Used) → (0 < length us → ⊥) → AllByRecursion (RowStands o table es (gs ++ g ∷ []) (suc k)) us
    empty [] no_more = tt
    empty (u ∷ us) no_more = absurd (no_more (omega arith))

    pick : (b : Bool) → bends_notes o.route ≡ b
        → AllByRecursion (RowStands o table es (gs ++ g ∷ []) (suc k)) rows
        × IsGiven o table es k p (record { channel = p.part.channel; run = next; is_new = true })
    pick true h = absurd (none_serves rows p.part.port p.part.channel none (served h))
    pick false h = (
      empty rows (λ l. both_ways (bends_notes o.route) h (bends l)),
      record {
        run = next_is ∙ ap (number_on o table es p.part.port) (sym (cond-false (bends_notes o.route) (since is_same_pair (pairs_on o
            (is_part o) table es p.part.port) p (suc k)) (suc k) h));
        count = begins.runs h p.part.port
            ∙ cond-true (nat_eq p.part.port p.part.port) (suc (runs_on o table es p.part.port k)) (runs_on o table es p.part.port k)
            (eq-eqb p.part.port p.part.port refl);
        own = λ not_bent. refl;
      },
    )
