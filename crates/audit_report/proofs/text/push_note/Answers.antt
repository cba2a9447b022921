use Rattle.std.proofs.Common.{◌≡◌, ◌++◌, ◌∷◌, [], ℕ, List, Result, Ok, Err, ap, ◌∙◌, append_assoc}
use Rattle.std.specs.Prelude.{OnOk}
use Rattle.key_report.specs.Texts.{error_text}
use Rattle.audit_report.specs.Texts.{front_text, note_line, sound_text}
use Rattle.audit_report.proofs.text.push_note.Goals as goal

on_ok : {E : Type 0} (r : Result (Unit {0}) E) (A B : Type 0) → OnOk r A → (A → B) → OnOk r B
on_ok (Ok x) A B a f = f a
on_ok (Err e) A B a f = tt

-- four pieces, one after the other
put_four : (t u v w x a b c d : List ℕ) → u ≡ t ++ a → v ≡ u ++ b → w ≡ v ++ c → x ≡ w ++ d → x ≡ t ++ (a ++ b ++ c ++ d)
put_four t u v w x a b c d first second third fourth =
    fourth ∙ (ap (λ y. y ++ d) (third ∙ ap (λ y. y ++ c) (second ∙ ap (λ y. y ++ b) first)) ∙ regroup)
  where
    regroup : t ++ a ++ b ++ c ++ d ≡ t ++ (a ++ b ++ c ++ d)
    regroup = simp append_assoc

pub returns : goal.returns
returns c =
    on_ok c.push_error.result (c.push_error.new.text.items ≡ c.push.new.self.items ++ error_text c.args.error)
    (c.push_error.new.text.items
    ≡ c.args.text.now.items ++ note_line c.args.names_ports c.args.number c.args.channel c.args.note.now c.args.error)
    c.push_error.ensures
    (λ last. put_four c.args.text.now.items c.push_front.new.text.items c.push_sound.new.text.items c.push.new.self.items c.push_error.new.text.items
    (front_text c.args.names_ports c.args.number c.args.note.now) (sound_text c.args.channel c.args.note.now) (32 ∷ []) (error_text c.args.error)
    c.in_ok-push_front.ensures c.in_ok-push_sound.ensures c.in_ok-push.ensures.items last)
