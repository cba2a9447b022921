-- What an action on one channel does to the note on each key of each channel.
use Rattle.std.proofs.Common.{◌≡◌, ℕ, ◌<◌, List, Bool, true, false, cond, ◌&&◌, nat_eq, Some, None, map, refl, ap, sym, ◌∙◌, set, get_or, length, ◌≢◌, ◌⊎◌, inl, inr}
use Rattle.std.proofs.lemmas.Bool.Decides.{eqb_tells}
use Rattle.std.proofs.lemmas.List.{get_or-map}
use Rattle.midi_model.specs.Channel.{default_channel}
use Rattle.midi_model.specs.Zones.{Zones, governor}
use Rattle.midi_model.specs.Music.{begun}
use Rattle.midi_model.specs.Notes.{Note, sounds, is_at, releasing, release_key, with_pressure, without_pressure}
use Rattle.receiver.specs.Heard.{heard, pressed, begins_as}
use Rattle.receiver.specs.State.{own_of}
use Rattle.receiver.specs.Turns.{kept, set_up}
use Rattle.receiver.specs.declared.note.Struck.{Struck}
use Rattle.receiver.specs.declared.playing.Playing.{Playing}
use Rattle.receiver.proofs.Here.{Slot, slot_in, slot_here, kept_where, slot_set}

cond_and : (a b : Bool) (x y : Slot) → cond (a && b) x y ≡ cond a (cond b x y) y
cond_and true b x y = refl
cond_and false b x y = refl

sounds_too : (a b : Bool) → b ≡ true → (a && b) ≡ a
sounds_too true b e = e
sounds_too false b e = refl

is_there : (c k d j : ℕ) (n : Note) → n.channel ≡ d → n.key ≡ j → is_at c k n ≡ (nat_eq d c && nat_eq j k)
is_there c k d j n e f = rw (e, f) refl

-- an action on one key
at_key : (xs : List Playing) (i key : ℕ) (y d : Playing) (f : Note → Note) (test : Note → Bool) → i < length xs
    → ((c j : ℕ) → j < 128 → heard c y j ≡ cond (nat_eq j key) (kept f (heard c (get_or xs i d) j)) (heard c (get_or xs i d) j))
    → ((c j : ℕ) (n : Note) → n.channel ≡ c → n.key ≡ j → sounds n ≡ true → test n ≡ (nat_eq c i && nat_eq j key))
    → (c j : ℕ) → j < 128 → slot_in (set xs i y) c j ≡ kept (λ n. cond (test n) (f n) n) (slot_in xs c j)
at_key xs i key y d f test low h e c j jl =
    slot_set xs i y d (λ e k o. cond (nat_eq k key) (kept f o) o) low h c j jl
    ∙ sym (kept_where c j (slot_in xs c j) (slot_here xs c j) test (nat_eq c i && nat_eq j key) f (e c j)
    ∙ cond_and (nat_eq c i) (nat_eq j key) (kept f (slot_in xs c j)) (slot_in xs c j))

-- an action on all keys of a channel
on_channel : (xs : List Playing) (i : ℕ) (y d : Playing) (f : Note → Note) (test : Note → Bool) → i < length xs
    → ((c j : ℕ) → j < 128 → heard c y j ≡ kept f (heard c (get_or xs i d) j))
    → ((c : ℕ) (n : Note) → n.channel ≡ c → sounds n ≡ true → test n ≡ nat_eq c i)
    → (c j : ℕ) → j < 128 → slot_in (set xs i y) c j ≡ kept (λ n. cond (test n) (f n) n) (slot_in xs c j)
on_channel xs i y d f test low h e c j jl =
    slot_set xs i y d (λ e k o. kept f o) low h c j jl
    ∙ sym (kept_where c j (slot_in xs c j) (slot_here xs c j) test (nat_eq c i) f (λ n a b s. e c n a s))

pub released : (xs : List Playing) (i key t v : ℕ) (y d : Playing) → i < length xs
    → ((c j : ℕ) → j < 128 → heard c y j ≡ cond (nat_eq j key) (kept (releasing t v) (heard c (get_or xs i d) j)) (heard c (get_or xs i d) j))
    → (c j : ℕ) → j < 128 → slot_in (set xs i y) c j ≡ kept (release_key t i key v) (slot_in xs c j)
released xs i key t v y d low h = at_key xs i key y d (releasing t v) (is_at i key) low h (λ c j n a b s. is_there i key c j n a b)

pub pressing : (xs : List Playing) (i key v : ℕ) (y d : Playing) → i < length xs
    → ((c j : ℕ) → j < 128 → heard c y j ≡ cond (nat_eq j key) (kept (pressed v) (heard c (get_or xs i d) j)) (heard c (get_or xs i d) j))
    → (c j : ℕ) → j < 128 → slot_in (set xs i y) c j ≡ kept (with_pressure i key v) (slot_in xs c j)
pressing xs i key v y d low h = at_key xs i key y d (pressed v) (λ n. is_at i key n && sounds n) low h (λ c j n a b s. sounds_too (is_at i key n) (sounds n) s ∙ is_there i key c j n a b)

pub relaxed : (xs : List Playing) (i : ℕ) (y d : Playing) → i < length xs
    → ((c j : ℕ) → j < 128 → heard c y j ≡ kept (pressed 0) (heard c (get_or xs i d) j))
    → (c j : ℕ) → j < 128 → slot_in (set xs i y) c j ≡ kept (without_pressure i) (slot_in xs c j)
relaxed xs i y d low h = on_channel xs i y d (pressed 0) (λ n. nat_eq n.channel i && sounds n) low h (λ c n a s. sounds_too (nat_eq n.channel i) (sounds n) s ∙ ap (λ x. nat_eq x i) a)

-- a key is struck
pub striking : (xs : List Playing) (i key : ℕ) (y d : Playing) (s : Struck) (n : Note) → i < length xs
    → ((c j : ℕ) → j < 128 → heard c y j ≡ cond (nat_eq j key) (Some (s.number, begins_as c key s)) (heard c (get_or xs i d) j))
    → n ≡ begins_as i key s
    → (c j : ℕ) → j < 128 → slot_in (set xs i y) c j ≡ cond (nat_eq c i && nat_eq j key) (Some (s.number, n)) (slot_in xs c j)
striking xs i key y d s n low h is c j jl =
    slot_set xs i y d (λ e k o. cond (nat_eq k key) (Some (s.number, begins_as e key s)) o) low h c j jl
    ∙ pick (eqb_tells c i) (eqb_tells j key)
  where
    was : Slot
    was = Some (s.number, begins_as c key s)

    is_now : Slot
    is_now = Some (s.number, n)

    at : c ≡ i → j ≡ key → was ≡ is_now
    at e f = rw e (ap (λ x. Some (s.number, x)) (sym is))

    pick : ((nat_eq c i ≡ true) × (c ≡ i)) ⊎ ((nat_eq c i ≡ false) × (c ≢ i)) → ((nat_eq j key ≡ true) × (j ≡ key)) ⊎ ((nat_eq j key ≡ false) × (j ≢ key))
        → cond (nat_eq c i) (cond (nat_eq j key) was (slot_in xs c j)) (slot_in xs c j) ≡ cond (nat_eq c i && nat_eq j key) is_now (slot_in xs c j)
    pick (inl t) (inl u) = rw (t.0, u.0) (at t.1 u.1)
    pick (inl t) (inr u) = rw (t.0, u.0) refl
    pick (inr t) u = rw t.0 refl

-- nothing that sounds changes
pub unmoved : (xs : List Playing) (i : ℕ) (y d : Playing) → i < length xs
    → ((c j : ℕ) → j < 128 → heard c y j ≡ heard c (get_or xs i d) j)
    → (c j : ℕ) → j < 128 → slot_in (set xs i y) c j ≡ slot_in xs c j
unmoved xs i y d low h c j jl = slot_set xs i y d (λ e k o. o) low h c j jl ∙ both (nat_eq c i)
  where
    both : (b : Bool) → cond b (slot_in xs c j) (slot_in xs c j) ≡ slot_in xs c j
    both true = refl
    both false = refl

-- the note that begins, by the voice of the channel that governs its own
pub begun_here : (xs : List Playing) (z : Zones) (t i key v g : ℕ) (d : Playing) → g < length xs → g ≡ governor z i
    → begun (set_up (map (λ s. own_of s.state) xs) z) t i key v ≡ begins_as i key (record { number = 0; onset = t; velocity = v; voice = (get_or xs g d).state.voice; release = (0, 0) })
begun_here xs z t i key v g d low is =
    let at : get_or (map (λ s. own_of s.state) xs) (governor z i) default_channel ≡ own_of (get_or xs g d).state =
    ap (λ e. get_or (map (λ s. own_of s.state) xs) e default_channel) (sym is) ∙ get_or-map (λ s. own_of s.state) xs g d default_channel low in
    ap (λ s. record { channel = i; key = key; onset = t; velocity = v; voice = s.voice; release = None; captured = false; pressure = 0; ended = None }) at
