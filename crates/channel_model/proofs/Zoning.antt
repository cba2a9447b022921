-- A block of the MPE route stands beside its event.
use Rattle.std.proofs.Common.{◌≡◌, ℕ, List, [], ◌∷◌, ◌++◌, Bool, true, false, cond, None, refl, ap, sym, ◌∙◌, map, inl, inr}
use Rattle.std.specs.Prelude.{◌⊎◌}
use Rattle.std.specs.List.{AllByRecursion}
use Rattle.mt_base.specs.declared.event.Msg.{Msg}
use Rattle.mt_base.specs.Midi.{MidiWhat, Says, SysexOf, MetaOf, MidiEvent, channel_of}
use Rattle.midi_model.specs.Sysex.{Doing, Plays, Resets, Tunes, Nothing, doing}
use Rattle.midi_model.specs.Music.{Music, play}
use Rattle.retune_model.specs.Options.{Options}
use Rattle.retune_model.specs.Ports.{named_port}
use Rattle.retune_model.specs.Faults.{Targets, is_part}
use Rattle.retune_model.specs.Pairs.{Pair}
use Rattle.retune_model.specs.PortOutput.{IsBeside}
use Rattle.channel_model.specs.BendOutput.{placed_at}
use Rattle.channel_model.specs.MpeOutput.{Zone, zones_setup, zone_of, in_zone, mpe_causes, setup_before, setup_behind, mpe_block}

-- names no port
abbrev Plain : List MidiWhat → Type 0
Plain ws = AllByRecursion (λ w. named_port w ≡ None) ws

plain_placed : (e : MidiEvent) (ws : List MidiWhat) → Plain ws → AllByRecursion (λ x. named_port x.what ≡ None) (placed_at e ws)
plain_placed e [] h = tt
plain_placed e (w ∷ ws) h = (h.0, plain_placed e ws h.1)

in_track : (e : MidiEvent) (ws : List MidiWhat) → AllByRecursion (λ x. x.track ≡ e.track) (placed_at e ws)
in_track e [] = tt
in_track e (w ∷ ws) = (refl, in_track e ws)

said : (ms : List Msg) → Plain (map Says ms)
said [] = tt
said (m ∷ ms) = (refl, said ms)

both_plain : (xs ys : List MidiWhat) → Plain xs → Plain ys → Plain (xs ++ ys)
both_plain [] ys h k = k
both_plain (x ∷ xs) ys h k = (h.0, both_plain xs ys h.1 k)

both_all : (P : MidiEvent → Type 0) (xs ys : List MidiEvent) → AllByRecursion P xs → AllByRecursion P ys → AllByRecursion P (xs ++ ys)
both_all P [] ys h k = k
both_all P (x ∷ xs) ys h k = (h.0, both_all P xs ys h.1 k)

before_plain : (setup : List MidiWhat) (b : Bool) (d : Doing) → Plain setup → Plain (setup_before setup b d)
before_plain setup false (Plays msg) h = h
before_plain setup true d h = tt
before_plain setup false Resets h = tt
before_plain setup false (Tunes r) h = tt
before_plain setup false Nothing h = tt

behind_plain : (setup : List MidiWhat) (b : Bool) (d : Doing) → Plain setup → Plain (setup_behind setup b d)
behind_plain setup true Resets h = h
behind_plain setup false d h = tt
behind_plain setup true (Plays msg) h = tt
behind_plain setup true (Tunes r) h = tt
behind_plain setup true Nothing h = tt

none_before : (setup : List MidiWhat) (b : Bool) → setup_before setup b Nothing ≡ []
none_before setup true = refl
none_before setup false = refl

none_behind : (setup : List MidiWhat) (b : Bool) → setup_behind setup b Nothing ≡ []
none_behind setup true = refl
none_behind setup false = refl

causes_plain : (z : ℕ) (o : Options) (table : Targets) (zones : List Zone) (there : List Pair) (before out : Music) (was is : Pair → ℕ) (t : ℕ) (w : MidiWhat) → named_port w ≡ None → Plain (mpe_causes z o table zones there before out was is t w)
causes_plain z o table zones there before out was is t (Says m) h = pick (is_part o (channel_of m))
  where
    pick : (b : Bool) → Plain (cond b (map Says (in_zone z o table there before out was is t m (zone_of (channel_of m) zones))) (Says m ∷ []))
    pick true = said (in_zone z o table there before out was is t m (zone_of (channel_of m) zones))
    pick false = (refl, tt)
causes_plain z o table zones there before out was is t (SysexOf lead bytes) h = (refl, tt)
causes_plain z o table zones there before out was is t (MetaOf kind bytes) h = (h, tt)

pub zoned_beside : (z : ℕ) (o : Options) (table : Targets) (zones : List Zone) (there : List Pair) (begun : Bool) (before out : Music) (was is : Pair → ℕ) (e : MidiEvent) → IsBeside e (mpe_block z o table zones there begun before out was is e)
zoned_beside z o table zones there begun before out was is e = record {
  in_track = both_all (λ x. x.track ≡ e.track) (placed_at e (setup_before (map Says (zones_setup o.range zones)) begun (doing e.what)))
      (placed_at e (mpe_causes z o table zones there before (play out (placed_at e (setup_before (map Says (zones_setup o.range zones)) begun (doing e.what)))) was is e.tick e.what ++ setup_behind (map Says (zones_setup o.range zones)) begun (doing e.what)))
      (in_track e (setup_before (map Says (zones_setup o.range zones)) begun (doing e.what)))
      (in_track e (mpe_causes z o table zones there before (play out (placed_at e (setup_before (map Says (zones_setup o.range zones)) begun (doing e.what)))) was is e.tick e.what ++ setup_behind (map Says (zones_setup o.range zones)) begun (doing e.what)));
  names = by_what e.what refl;
}
  where
    plain : named_port e.what ≡ None → ((named_port e.what ≡ None) × AllByRecursion (λ x. named_port x.what ≡ None) (mpe_block z o table zones there begun before out was is e)) ⊎ (mpe_block z o table zones there begun before out was is e ≡ e ∷ [])
    plain g =
        let setup : List MidiWhat = map Says (zones_setup o.range zones) in
        let first : List MidiWhat = setup_before setup begun (doing e.what) in
        let causes : List MidiWhat = mpe_causes z o table zones there before (play out (placed_at e first)) was is e.tick e.what in
        inl (
          g,
          both_all (λ x. named_port x.what ≡ None) (placed_at e first) (placed_at e (causes ++ setup_behind setup begun (doing e.what)))
              (plain_placed e first (before_plain setup begun (doing e.what) (said (zones_setup o.range zones))))
              (plain_placed e (causes ++ setup_behind setup begun (doing e.what))
              (both_plain causes (setup_behind setup begun (doing e.what)) (causes_plain z o table zones there before (play out (placed_at e first)) was is e.tick e.what g) (behind_plain setup begun (doing e.what) (said (zones_setup o.range zones))))),
        )

    alone : (kind : ℕ) (bytes : List ℕ) → mpe_block z o table zones there begun before out was is (record e { what = MetaOf kind bytes }) ≡ record e { what = MetaOf kind bytes } ∷ []
    alone kind bytes =
        let setup : List MidiWhat = map Says (zones_setup o.range zones) in
        ap (λ l. placed_at e l ++ placed_at e (MetaOf kind bytes ∷ setup_behind setup begun Nothing)) (none_before setup begun)
        ∙ ap (λ l. placed_at e (MetaOf kind bytes ∷ l)) (none_behind setup begun)

    by_what : (w : MidiWhat) → e.what ≡ w → ((named_port e.what ≡ None) × AllByRecursion (λ x. named_port x.what ≡ None) (mpe_block z o table zones there begun before out was is e)) ⊎ (mpe_block z o table zones there begun before out was is e ≡ e ∷ [])
    by_what (Says m) g = plain (ap named_port g)
    by_what (SysexOf lead bytes) g = plain (ap named_port g)
    by_what (MetaOf kind bytes) g = inr (ap (λ w. mpe_block z o table zones there begun before out was is (record e { what = w })) g ∙ alone kind bytes ∙ ap (λ w. record e { what = w } ∷ []) (sym g))
