-- What the work may stop at before the store: no fault of the words, of the store or of the say.
use Rattle.std.proofs.Common.{ℕ, List, Option, Some, None, inl, inr}
use Rattle.retune_model.specs.Faults.{Targets}
use Rattle.mtune_files.specs.Outside.{Outside, after_load}
use Rattle.mtune_files.specs.Sample.{sample_bytes}
use Rattle.mtune_files.specs.declared.which.Which.{Which}
use Rattle.mtune_files.specs.declared.which.Which.TheVariants.{Scale, Map, Input}
use Rattle.mtune_core.specs.declared.outcome.Fault.{Fault}
use Rattle.mtune_core.specs.declared.outcome.Fault.TheVariants.{Usage, Store, Say}
use Rattle.mtune_core.specs.Call.{CommandCause}
use Rattle.command_line.specs.Words.{Command, MapChoice, Named, At440, Standard}
use Rattle.mtune_core.specs.Contents.{LoadCause, ContentCause}
use Rattle.mtune_core.specs.Inputs.{SampleCause, InputStops}
use Rattle.mtune_core.specs.Limits.{text_limit, input_limit}
use Rattle.mtune_core.specs.Retuned.{InputCause}
use Rattle.mtune_core.specs.Table.{ScaleCause, MapCause, MappingCause, IsTuneFault, after_texts}

-- a fault of a content, or of what contents are
abbrev pub IsOfContent : Fault → Type 0
IsOfContent (Usage kind) = ⊥
IsOfContent Store = ⊥
IsOfContent Say = ⊥
IsOfContent _ = Unit {0}

of_content : (P : Fault → Type 0) → ((kind : ℕ) → P (Usage kind) → ⊥) → (P Store → ⊥) → (P Say → ⊥) → (fault : Fault) → P fault → IsOfContent fault
of_content P usage store say (Usage kind) h = usage kind h
of_content P usage store say Store h = store h
of_content P usage store say Say h = say h
of_content P usage store say fault h = tt

of_load : (which : Which) (name : List ℕ) (limit : ℕ) (IsFault : List ℕ → Fault → Type 0) (before now : Outside) (fault : Fault)
    → ((text : List ℕ) → IsFault text fault → IsOfContent fault) → ContentCause which name limit IsFault before now fault → IsOfContent fault
of_load which name limit IsFault before now fault its (inl h) =
    of_content (LoadCause which name limit before now) (λ k x. x) (λ x. x) (λ x. x) fault h
of_load which name limit IsFault before now fault its (inr h) = its h.0.0.bytes h.0.1

of_mapping : (choice : MapChoice) (before now : Outside) (fault : Fault) → MappingCause choice before now fault → IsOfContent fault
of_mapping (Named name) before now fault h =
    of_load Map name text_limit MapCause before now fault (λ text. of_content (MapCause text) (λ k x. x) (λ x. x) (λ x. x) fault) h
of_mapping At440 before now fault h = absurd h
of_mapping Standard before now fault h = absurd h

of_input : (sample : Option ℕ) (c : Command) (table : Targets) (before now : Outside) (fault : Fault) → InputStops sample c table before now fault
    → IsOfContent fault
of_input None c table before now fault h =
    of_load Input c.input input_limit (InputCause c table) before now fault (λ input. of_content (InputCause c table input) (λ k x. x.2) (λ x. x.2)
    (λ x. x.2) fault) h
of_input (Some chords) c table before now fault h =
    of_content (SampleCause c table (sample_bytes chords)) (λ k x. x.2) (λ x. x.2) (λ x. x.2) fault h.1

pub is_of_content : (c : Command) (before now : Outside) (fault : Fault) → CommandCause c before now fault → IsOfContent fault
is_of_content c before now fault (inl (inl h)) =
    of_load Scale c.scale text_limit ScaleCause before now fault (λ text. of_content (ScaleCause text) (λ k x. x) (λ x. x) (λ x. x) fault) h
is_of_content c before now fault (inl (inr h)) = elim h.2 [
  | inl l ↦ of_mapping c.mapping (after_load Scale before) now fault l
  | inr r ↦ of_content (IsTuneFault h.0 r.0) (λ k x. x) (λ x. x) (λ x. x) fault r.3
]
is_of_content c before now fault (inr h) = of_input c.sample c h.0 (after_texts c before) now fault h.2
