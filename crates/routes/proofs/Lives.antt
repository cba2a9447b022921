-- What the routes write is passed on port by port: on dump as on live, where no part is told key by key.
use Rattle.std.proofs.Common.{◌≡◌, ℕ, zero, suc, List, [], ◌∷◌, ◌++◌, Bool, true, false, cond, nat_eq, refl, ap, sym, ◌∙◌}
use Rattle.std.proofs.lemmas.List.{append-nil}
use Rattle.mt_base.specs.declared.event.Msg.{Msg}
use Rattle.mt_base.specs.declared.event.Msg.TheVariants.{NoteOn, NoteOff, KeyPressure, Control, Program, Pressure, Bend}
use Rattle.mt_base.specs.Midi.{MidiEvent}
use Rattle.midi_model.specs.Sysex.{Doing, Plays, Resets, Tunes, Nothing, doing}
use Rattle.retune_model.specs.Options.{Route, ByDump, ByLive, ByBend, ByMpe, Options}
use Rattle.retune_model.specs.Faults.{Targets}
use Rattle.retune_model.specs.Ports.{port_of, ports_after, all_zero, events_on}
use Rattle.retune_model.specs.PortOutput.{kept_for, through_ports_from}
use Rattle.retune_model.specs.Blocks.{all_events}
use Rattle.retune_model.specs.Blocks as blocks
use Rattle.retune_model.specs.Dump.{dump_setup}
use Rattle.retune_model.specs.Routes.{Live, Told, nothing_told, dump_before, dump_behind, dump_next, dump_block, change_due, live_before, live_next, live_block}
use Rattle.routes.specs.Routed.{dump_of, routed_by, routed, is_live, lives, passed}

-- no change is due where no part is told key by key
not_due : (l : Live) (s : Told) (e : MidiEvent) (m : Msg) → l.is_retuned ≡ (λ c. false) → change_due l s e m ≡ []
not_due l s e (NoteOn c k zero) none = refl
not_due l s e (NoteOn c k (suc v)) none = rw none refl
not_due l s e (NoteOff c k v) none = refl
not_due l s e (KeyPressure c k v) none = refl
not_due l s e (Control c k v) none = refl
not_due l s e (Program c v) none = refl
not_due l s e (Pressure c v) none = refl
not_due l s e (Bend c v) none = refl

before_alike : (l : Live) (s : Told) (b : Bool) (e : MidiEvent) (d : Doing) → l.is_retuned ≡ (λ c. false) → b ≡ s.begun → dump_before l.setup b e d
    ≡ live_before l s e d
before_alike l s b e (Plays m) none is =
    ap (λ x. dump_before l.setup x e (Plays m)) is
    ∙ sym (ap (λ gs. dump_before l.setup s.begun e (Plays m) ++ gs) (not_due l s e m none) ∙ append-nil (dump_before l.setup s.begun e (Plays m)))
before_alike l s true e Resets none is = refl
before_alike l s false e Resets none is = refl
before_alike l s true e (Tunes r) none is = refl
before_alike l s false e (Tunes r) none is = refl
before_alike l s true e Nothing none is = refl
before_alike l s false e Nothing none is = refl

block_alike : (l : Live) (s : Told) (b : Bool) (e : MidiEvent) → l.is_retuned ≡ (λ c. false) → b ≡ s.begun → blocks.written (dump_block l.setup b e)
    ≡ blocks.written (live_block l s e)
block_alike l s b e none is =
    ap (λ gs. all_events gs ++ e ∷ all_events (dump_behind l.setup b e (doing e.what))) (before_alike l s b e (doing e.what) none is)
    ∙ ap (λ x. all_events (live_before l s e (doing e.what)) ++ e ∷ all_events (dump_behind l.setup x e (doing e.what))) is

next_alike : (l : Live) (s : Told) (b : Bool) (d : Doing) → b ≡ s.begun → dump_next b d ≡ (live_next l s d).begun
next_alike l s b (Plays m) is = refl
next_alike l s b Resets is = is
next_alike l s b (Tunes r) is = is
next_alike l s b Nothing is = is

kept_alike : (z : ℕ) (b : ℕ → Bool) (s : ℕ → Told) (x : Bool) (u : Told) → ((y : ℕ) → b y ≡ (s y).begun) → x ≡ u.begun → (y : ℕ) → kept_for z x b y
    ≡ (kept_for z u s y).begun
kept_alike z b s x u same is y = pick (nat_eq y z)
  where
    pick : (c : Bool) → cond c x (b y) ≡ (cond c u (s y)).begun
    pick true = is
    pick false = same y

dump_passed : (o : Options) (table : Targets) (all : List MidiEvent) (ports : ℕ → ℕ) (k : ℕ) (b : ℕ → Bool) (s : ℕ → Told) (es : List MidiEvent)
    → ((z : ℕ) → b z ≡ (s z).begun)
    → through_ports_from (λ z c n. blocks.written (dump_block (dump_setup o (dump_of o table) (events_on z all)) c n.event))
    (λ z c n. dump_next c (doing n.event.what)) ports k b es
    ≡ passed false o table all ports k s es
dump_passed o table all ports k b s [] same = refl
dump_passed o table all ports k b s (e ∷ es) same =
    let z = port_of ports e in
    let l = lives false o table (events_on z all) in
    let block = block_alike l (s z) (b z) e refl (same z) in
    let next = next_alike l (s z) (b z) (doing e.what) (same z) in
    let later = dump_passed o table all (ports_after ports e) (suc k) (kept_for z (dump_next (b z) (doing e.what)) b)
    (kept_for z (live_next l (s z) (doing e.what)) s) es
    (kept_alike z b s (dump_next (b z) (doing e.what)) (live_next l (s z) (doing e.what)) same next) in
    ap (λ xs. xs ++ through_ports_from (λ y c n. blocks.written (dump_block (dump_setup o (dump_of o table) (events_on y all)) c n.event))
    (λ y c n. dump_next c (doing n.event.what)) (ports_after ports e) (suc k) (kept_for z (dump_next (b z) (doing e.what)) b) es) block
    ∙ ap (λ xs. blocks.written (live_block l (s z) e) ++ xs) later

by_route : (r : Route) (o : Options) (table : Targets) (es : List MidiEvent) → routed_by r o table es
    ≡ passed (is_live r) o table es all_zero 0 (λ z. nothing_told) es
by_route ByDump o table es = dump_passed o table es all_zero 0 (λ z. false) (λ z. nothing_told) es (λ z. refl)
by_route ByLive o table es = refl
by_route ByBend o table es = dump_passed o table es all_zero 0 (λ z. false) (λ z. nothing_told) es (λ z. refl)
by_route ByMpe o table es = dump_passed o table es all_zero 0 (λ z. false) (λ z. nothing_told) es (λ z. refl)

pub routed_is_passed : (o : Options) (table : Targets) (es : List MidiEvent) → routed o table es
    ≡ passed (is_live o.route) o table es all_zero 0 (λ z. nothing_told) es
routed_is_passed o table es = by_route o.route o table es
