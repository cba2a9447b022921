use Rattle.std.proofs.Common.{◌≡◌, ◌++◌, ◌∷◌, [], List, ℕ, None, Result, Ok, Err, map, set, sym, ap, ◌∙◌, subst}
use Rattle.std.specs.Prelude.{OnOk}
use Rattle.mt_base.specs.Midi.{MidiEvent, view}
use Rattle.audit_report.specs.declared.played.Played.{Played}
use Rattle.audit_report.specs.Audit.{AreHeard, IsAudit, channels_below, marked, place_of}
use Rattle.audit_report.proofs.Next.{heard_none, heard_some}
use Rattle.audit_report.proofs.audit.Audit.take.Goals as goal

on_both : {E : Type 0} (r : Result (Unit {0}) E) (A B C : Type 0) → OnOk r A → OnOk r B → (A → B → C) → OnOk r C
on_both (Ok x) A B C a b f = f a b
on_both (Err e) A B C a b f = tt

pub returns-in_default : goal.returns-in_default
returns-in_default c = λ o table es told heard.
    heard_none (record { age = c.music_laws.ensures.age; fade = c.music_laws.ensures.fade; one = c.receiver_laws.ensures.one_note; events = c.next_laws.ensures.events })
    o table es (view c.args.event.now) c.args.change.now c.end_all.new.self.last.items c.args.self.now.notes.items c.end_all.new.self.notes.items told
    (subst (λ (l : List ℕ). AreHeard o es l c.args.self.now.notes.items) (sym (ap (λ v. v.items) c.end_all.ensures.last)) heard)
    (c.end_all.ensures.notes heard.indexed
    ∙ ap (λ z. map (marked z (channels_below c.args.change.now.ended.keys 16) c.args.event.now.tick) c.args.self.now.notes.items) told.port)
    (c.end_all.ensures.indexed heard.indexed)
    c.in_default.is

pub returns : goal.returns
returns c = λ o table es told heard.
    let e : MidiEvent = view c.args.event.now in
    let p : Played = record { part = c.in-Some.begun.pair.part; key = c.in-Some.begun.key; onset = c.args.event.now.tick; velocity = c.velocity_in.result; ended = None } in
    let qs : List Played = c.end_all.new.self.notes.items in
    let next : AreHeard o (es ++ e ∷ []) (set c.end_all.new.self.last.items (place_of p.part.port p.part.channel p.key) c.in-Some.begun.note)
    (qs ++ p ∷ []) =
    heard_some (record { age = c.music_laws.ensures.age; fade = c.music_laws.ensures.fade; one = c.receiver_laws.ensures.one_note; events = c.next_laws.ensures.events })
    o table es e c.args.change.now c.end_all.new.self.last.items c.args.self.now.notes.items qs c.in-Some.begun p told
    (subst (λ (l : List ℕ). AreHeard o es l c.args.self.now.notes.items) (sym (ap (λ v. v.items) c.end_all.ensures.last)) heard)
    (c.end_all.ensures.notes heard.indexed
    ∙ ap (λ z. map (marked z (channels_below c.args.change.now.ended.keys 16) c.args.event.now.tick) c.args.self.now.notes.items) told.port)
    (c.end_all.ensures.indexed heard.indexed) c.in-Some.is
    (ap (λ v. record p { velocity = v }) c.velocity_in.ensures) c.begin.ensures.low in
    on_both c.begin.result (c.begin.new.self.notes.items ≡ qs ++ p ∷ [])
    (c.begin.new.self.last.items ≡ set c.end_all.new.self.last.items (place_of p.part.port p.part.channel p.key) c.in-Some.begun.note)
    (IsAudit o (es ++ e ∷ []) c.begin.new.self) c.begin.ensures.notes c.begin.ensures.last
    (λ notes last. subst (λ (ps : List Played). AreHeard o (es ++ e ∷ []) c.begin.new.self.last.items ps) (sym notes)
    (subst (λ (l : List ℕ). AreHeard o (es ++ e ∷ []) l (qs ++ p ∷ [])) (sym last) next))
