-- A source that fits isn't refused; and what is said of a refusal.
use Rattle.std.proofs.Common.{◌≡◌, ◌≤◌, ◌<◌, ℕ, zero, suc, List, [], ◌∷◌, Bool, false, length, take, ap, sym, ◌∙◌, subst, arith, inl, inr}
use Rattle.std.specs.List.{AllByRecursion, IsDistinct}
use Rattle.std.proofs.lemmas.Bool.{cases_lt}
use Rattle.std.proofs.lemmas.List.{length-take-le}
use Rattle.mt_base.specs.Midi.{MidiEvent}
use Rattle.retune_model.specs.Options.{Options, Route, ByDump, ByLive, ByBend, ByMpe}
use Rattle.retune_model.specs.Ports.{tick_to}
use Rattle.retune_model.specs.Faults.{Targets, is_part}
use Rattle.retune_model.specs.Pairs.{Pair, is_same_pair}
use Rattle.retune_model.specs.PortNeed.{pairs_on, AreParts, IsValidOn, size_on}
use Rattle.retune_model.specs.SourceFaults.{IsSound}
use Rattle.retune_model.specs.NeedLaws.{PairsStandOnce, FewerAreRefused}
use Rattle.retune_model.specs.RunLaws.{NeedIsDetermined}
use Rattle.channel_model.specs.MpeOutput.{Zone}
use Rattle.channel_model.specs.Rows.{allowed_row, only}
use Rattle.channel_model.specs.Refusals.{TooMany, NeedsAtMost, NeedsMore, PortRefuses, part_count, HasFewParts, PartsRefuse, ZoneFits, FirstNeedsMore, zones_allowed, ZoneRefuses, Refusal, TooManyParts, TooManyChannels, RefusesOn, FitsOn}

-- ---- fits, or is refused

first_apart : (o : Options) (table : Targets) (es : List MidiEvent) (z : ℕ) (zones : List (Zone × ℕ)) (t : TooMany)
    → AllByRecursion (ZoneFits o table es z) zones → FirstNeedsMore o table es z zones t → ⊥
first_apart o table es z [] t fits h = h
first_apart o table es z (x ∷ xs) t fits (inl h) = let few = fits.0 t.need t.position h.need in let more = h.more in omega (arith, few, more)
first_apart o table es z (x ∷ xs) t fits (inr h) = first_apart o table es z xs t fits.1 h.1

pub apart : (route : Route) (o : Options) (allowed : ℕ → Bool) (table : Targets) (es : List MidiEvent) (r : Refusal)
    → FitsOn route o allowed table es → RefusesOn route o allowed table es r → ⊥
apart ByBend o allowed table es (TooManyChannels t) fits h = let few = fits t.port t.need t.position h.here.need in let more = h.here.more in omega (arith, few, more)
apart ByBend o allowed table es (TooManyParts z n) fits h = h
apart ByMpe o allowed table es (TooManyParts z n) fits h = let few = (fits z).0 in let here = h.here in let more = h.more in omega (arith, few, here, more)
apart ByMpe o allowed table es (TooManyChannels t) fits h = first_apart o table es t.port (zones_allowed o table es t.port) t (fits t.port).1 h.here
apart ByDump o allowed table es (TooManyChannels t) fits h = h
apart ByDump o allowed table es (TooManyParts z n) fits h = h
apart ByLive o allowed table es (TooManyChannels t) fits h = h
apart ByLive o allowed table es (TooManyParts z n) fits h = h

-- ---- the pairs of a refusal

apart_take : (p : Pair) (n : ℕ) (ps : List Pair) → AllByRecursion (λ q. is_same_pair p q ≡ false) ps
    → AllByRecursion (λ q. is_same_pair p q ≡ false) (take n ps)
apart_take p zero ps h = tt
apart_take p (suc n) [] h = tt
apart_take p (suc n) (q ∷ qs) h = (h.0, apart_take p n qs h.1)

distinct_take : (n : ℕ) (ps : List Pair) → IsDistinct is_same_pair ps → IsDistinct is_same_pair (take n ps)
unfolding IsDistinct
distinct_take zero ps h = tt
distinct_take (suc n) [] h = tt
distinct_take (suc n) (p ∷ ps) h = (apart_take p n ps h.0, distinct_take n ps h.1)

pub pair_more : PairsStandOnce → (o : Options) (part : ℕ → Bool) (table : Targets) (es : List MidiEvent) (z most : ℕ) (t : TooMany)
    → NeedsMore o part table es z most t
    → (length t.pairs ≡ suc most) × IsDistinct is_same_pair t.pairs
pair_more once o part table es z most t h =
    let there = pairs_on o part table es z t.position in
    let reached = h.need.reached in
    let more = h.more in
    let long : suc most ≤ length there = omega (arith, reached, more) in
    (ap length h.pairs ∙ length-take-le (suc most) there long, subst (IsDistinct is_same_pair) (sym h.pairs) (distinct_take (suc most) there (once o part table es z t.position)))

pub none_allowed : FewerAreRefused
    → (o : Options) (part : ℕ → Bool) (table : Targets) (es : List MidiEvent) (z most : ℕ) (t : TooMany) (channel : ℕ → ℕ)
    → AreParts o part → IsSound o table es → NeedsMore o part table es z most t → IsValidOn o part table es z channel
    → most < size_on part es z channel
none_allowed refused o part table es z most t channel parts sound h valid =
    refused o part table es z t.need t.position most channel (record { parts = parts; sound = sound; need = h.need }) h.more valid

-- ---- what is said of it

abbrev made : ℕ → ℕ → ℕ → ℕ → ℕ → List Pair → TooMany
made port need allowed position tick pairs = record { port = port; need = need; allowed = allowed; position = position; tick = tick; pairs = pairs }

one_answer : NeedIsDetermined → (o : Options) (part : ℕ → Bool) (table : Targets) (es : List MidiEvent) (z most : ℕ) (t u : TooMany)
    → NeedsMore o part table es z most t → NeedsMore o part table es z most u → t ≡ u
one_answer determined o part table es z most t u h g =
    let same = determined (pairs_on o part table es z) (length es) t.need u.need t.position u.position h.need g.need in
    ap (λ x. made x t.need t.allowed t.position t.tick t.pairs) (h.port ∙ sym g.port)
    ∙ (ap (λ x. made u.port x t.allowed t.position t.tick t.pairs) same.0
    ∙ (ap (λ x. made u.port u.need x t.position t.tick t.pairs) (h.allowed ∙ sym g.allowed)
    ∙ (ap (λ x. made u.port u.need u.allowed x t.tick t.pairs) same.1
    ∙ (ap (λ x. made u.port u.need u.allowed u.position x t.pairs) (h.tick ∙ (ap (tick_to es) same.1 ∙ sym g.tick))
    ∙ ap (λ x. made u.port u.need u.allowed u.position u.tick x) (h.pairs ∙ (ap (λ k. take (suc most) (pairs_on o part table es z k)) same.1 ∙ sym g.pairs))))))

-- ---- one refusal at most

-- numbers of which neither is below the other are the same
neither : (a b : ℕ) → (a < b → ⊥) → (b < a → ⊥) → a ≡ b
neither a b f g = elim (cases_lt a b) [ inl h ↦ absurd (f h) | inr h ↦ elim (cases_lt b a) [ inl k ↦ absurd (g k) | inr k ↦ omega (arith, h, k) ] ]

over : (o : Options) (part : ℕ → Bool) (table : Targets) (es : List MidiEvent) (z most : ℕ) (t : TooMany)
    → NeedsAtMost o part table es z most → NeedsMore o part table es z most t → ⊥
over o part table es z most t fits h = let few = fits t.need t.position h.need in let more = h.more in omega (arith, few, more)

one_port : NeedIsDetermined → (o : Options) (allowed : ℕ → Bool) (table : Targets) (es : List MidiEvent) (t u : TooMany)
    → PortRefuses o allowed table es t → PortRefuses o allowed table es u → t ≡ u
one_port determined o allowed table es t u h g =
    let most : ℕ = length (allowed_row o allowed) in
    let same : t.port ≡ u.port = neither t.port u.port (λ l. over o (is_part o) table es t.port most t (g.least t.port l) h.here) (λ l. over o (is_part o) table es u.port most u (h.least u.port l) g.here) in
    one_answer determined o (is_part o) table es u.port most t u (subst (λ z. NeedsMore o (is_part o) table es z most t) same h.here) g.here

one_zone : NeedIsDetermined → (o : Options) (table : Targets) (es : List MidiEvent) (z : ℕ) (zones : List (Zone × ℕ)) (t u : TooMany)
    → FirstNeedsMore o table es z zones t → FirstNeedsMore o table es z zones u → t ≡ u
one_zone determined o table es z [] t u h g = absurd h
one_zone determined o table es z (x ∷ xs) t u (inl h) (inl g) = one_answer determined o (only x.0.part) table es z x.1 t u h g
one_zone determined o table es z (x ∷ xs) t u (inl h) (inr g) = absurd (over o (only x.0.part) table es z x.1 t g.0 h)
one_zone determined o table es z (x ∷ xs) t u (inr h) (inl g) = absurd (over o (only x.0.part) table es z x.1 u h.0 g)
one_zone determined o table es z (x ∷ xs) t u (inr h) (inr g) = one_zone determined o table es z xs t u h.1 g.1

one_zone_port : NeedIsDetermined → (o : Options) (table : Targets) (es : List MidiEvent) (t u : TooMany) → ZoneRefuses o table es t
    → ZoneRefuses o table es u → t ≡ u
one_zone_port determined o table es t u h g =
    let same : t.port ≡ u.port = neither t.port u.port
    (λ l. first_apart o table es t.port (zones_allowed o table es t.port) t (g.least t.port l) h.here)
    (λ l. first_apart o table es u.port (zones_allowed o table es u.port) u (h.least u.port l) g.here) in
    one_zone determined o table es u.port (zones_allowed o table es u.port) t u (subst (λ z. FirstNeedsMore o table es z (zones_allowed o table es z) t) same h.here) g.here

too_many_parts : (o : Options) (es : List MidiEvent) (z n : ℕ) → HasFewParts o es z → PartsRefuse o es z n → ⊥
too_many_parts o es z n few h = let here = h.here in let more = h.more in omega (arith, few, here, more)

one_parts : (o : Options) (es : List MidiEvent) (y z m n : ℕ) → PartsRefuse o es y m → PartsRefuse o es z n → TooManyParts y m ≡ TooManyParts z n
one_parts o es y z m n h g =
    let same : y ≡ z = neither y z (λ l. too_many_parts o es y m (g.least y l) h) (λ l. too_many_parts o es z n (h.least z l) g) in
    ap (λ x. TooManyParts x m) same ∙ ap (TooManyParts z) (sym h.here ∙ (ap (part_count o es) same ∙ g.here))

pub one_refusal : NeedIsDetermined → (route : Route) (o : Options) (allowed : ℕ → Bool) (table : Targets) (es : List MidiEvent) (r s : Refusal)
    → RefusesOn route o allowed table es r → RefusesOn route o allowed table es s → r ≡ s
one_refusal determined ByBend o allowed table es (TooManyChannels t) (TooManyChannels u) h g = ap TooManyChannels (one_port determined o allowed table es t u h g)
one_refusal determined ByBend o allowed table es (TooManyParts y m) s h g = absurd h
one_refusal determined ByBend o allowed table es (TooManyChannels t) (TooManyParts z n) h g = absurd g
one_refusal determined ByMpe o allowed table es (TooManyParts y m) (TooManyParts z n) h g = one_parts o es y z m n h g
one_refusal determined ByMpe o allowed table es (TooManyParts y m) (TooManyChannels u) h g = absurd (too_many_parts o es y m (g.few y) h)
one_refusal determined ByMpe o allowed table es (TooManyChannels t) (TooManyParts z n) h g = absurd (too_many_parts o es z n (h.few z) g)
one_refusal determined ByMpe o allowed table es (TooManyChannels t) (TooManyChannels u) h g = ap TooManyChannels (one_zone_port determined o table es t u h g)
one_refusal determined ByDump o allowed table es (TooManyChannels t) s h g = absurd h
one_refusal determined ByDump o allowed table es (TooManyParts z n) s h g = absurd h
one_refusal determined ByLive o allowed table es (TooManyChannels t) s h g = absurd h
one_refusal determined ByLive o allowed table es (TooManyParts z n) s h g = absurd h
