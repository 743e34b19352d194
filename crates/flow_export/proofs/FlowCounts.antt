-- The counts of a list of leavings with one more: its header is counted once more, at its place, or
-- behind the others as a new one.
use Rattle.std.proofs.Common.{[], ◌&&◌, ◌++◌, ◌+◌, ◌||◌, ◌∙◌, ◌∷◌, ◌≡◌, ◌≤◌, Bool, List, Option, Some, ap, append-nil, arith, cond, eq-eqb, eqb, eqb-true, false, filter, length, map, not, refl, subst, sym, true, unwrap_or, ℕ}
use Rattle.base.proofs.Exports.{and_from, and_parts, count_by-le-length, false_from_ne_true, false≢true, filter-append, list_any, lookup, or_parts, sum_by-cons, sum_by_push}
use Rattle.five_tuple.specs.Exports.{header_eq}
use Rattle.five_tuple.specs.declared.header.Header.{Header}
use Rattle.indexmap.specs.IndexMap.{insert_entry}
use Rattle.meters.specs.declared.flows.FlowRecord.{FlowRecord}
use Rattle.policy_rules.specs.declared.packet.Leaving.{Leaving}
use Rattle.flow_export.specs.Counts.{flow_count_of_header, flow_packet_counts}
use Rattle.flow_export.specs.Flows.{flows, exported_flow_headers_of, flow_packets_of}

-- ---- equal headers

same : (a b : Header) → header_eq a b ≡ true → a ≡ b
same a b is =
    let f = a.fields in
    let g = b.fields in
    let five = and_parts
    (eqb f.src g.src && eqb f.dst g.dst && eqb f.sport g.sport && eqb f.dport g.dport)
    (eqb f.proto g.proto) is in
    let four = and_parts (eqb f.src g.src && eqb f.dst g.dst && eqb f.sport g.sport)
    (eqb f.dport g.dport) five.0 in
    let three = and_parts (eqb f.src g.src && eqb f.dst g.dst) (eqb f.sport g.sport) four.0 in
    let two = and_parts (eqb f.src g.src) (eqb f.dst g.dst) three.0 in
    let src = eqb-true f.src g.src two.0 in
    let dst = eqb-true f.dst g.dst two.1 in
    let sport = eqb-true f.sport g.sport three.1 in
    let dport = eqb-true f.dport g.dport four.1 in
    let proto = eqb-true f.proto g.proto five.1 in
    λ i. record {
      fields = record { src = src i; dst = dst i; sport = sport i; dport = dport i; proto = proto i };
    }

itself : (a : Header) → header_eq a a ≡ true
itself a = let f = a.fields in
    and_from (eqb f.src f.src && eqb f.dst f.dst && eqb f.sport f.sport && eqb f.dport f.dport)
    (eqb f.proto f.proto)
    (and_from (eqb f.src f.src && eqb f.dst f.dst && eqb f.sport f.sport) (eqb f.dport f.dport)
    (and_from (eqb f.src f.src && eqb f.dst f.dst) (eqb f.sport f.sport)
    (and_from (eqb f.src f.src) (eqb f.dst f.dst) (eq-eqb f.src f.src refl)
    (eq-eqb f.dst f.dst refl)) (eq-eqb f.sport f.sport refl)) (eq-eqb f.dport f.dport refl))
    (eq-eqb f.proto f.proto refl)

turned : (a b : Header) → header_eq a b ≡ true → header_eq b a ≡ true
turned a b is = subst (λ h. header_eq h a ≡ true) (same a b is) (itself a)

apart : (a b : Header) → header_eq a b ≡ false → header_eq b a ≡ false
apart a b is = false_from_ne_true (header_eq b a) (λ equal. false≢true (sym is ∙ turned b a equal))

-- ---- lists of headers

abbrev is_among : Header → List Header → Bool
is_among h headers = list_any (header_eq h) headers

abbrev others : Header → List Header → List Header
others h headers = filter (λ g. not (header_eq h g)) headers

-- the list with the header behind it, where it isn't there
abbrev with_header : List Header → Header → List Header
with_header headers h = cond (is_among h headers) headers (headers ++ h ∷ [])

none_first : (h g : Header) (rest : List Header) (b : Bool) → header_eq h g ≡ b
    → is_among h rest ≡ false → is_among h (cond (not b) (g ∷ rest) rest) ≡ false
none_first h g rest true is none = none
none_first h g rest false is none = ap (λ first. first || is_among h rest) is ∙ none

others_lack : (h : Header) (headers : List Header) → is_among h (others h headers) ≡ false
others_lack h [] = refl
others_lack h (g ∷ rest) = none_first h g (others h rest) (header_eq h g) refl (others_lack h rest)

kept_apart : (h g x : Header) (all rest : List Header) (b : Bool) → header_eq x g ≡ b
    → header_eq h x ≡ false → is_among h rest ≡ is_among h all
    → is_among h (cond (not b) (g ∷ rest) rest) ≡ (header_eq h g || is_among h all)
kept_apart h g x all rest true is away same_rest = same_rest ∙ ap (λ first. first || is_among h all)
    (sym (subst (λ (k : Header). header_eq h k ≡ false) (same x g is) away))
kept_apart h g x all rest false is away same_rest = ap (λ more. header_eq h g || more) same_rest

-- a header is among the others exactly if it is among all
has_others : (h x : Header) (headers : List Header) → header_eq h x ≡ false
    → is_among h (others x headers) ≡ is_among h headers
has_others h x [] away = refl
has_others h x (g ∷ rest) away =
    kept_apart h g x rest (others x rest) (header_eq x g) refl away (has_others h x rest away)

none_kept : (h g : Header) (rest : List Header) (b : Bool) → header_eq h g ≡ false
    → is_among h rest ≡ false → is_among h (cond (not b) (g ∷ rest) rest) ≡ false
none_kept h g rest true first none = none
none_kept h g rest false first none = ap (λ now. now || is_among h rest) first ∙ none

none_of_others : (h x : Header) (headers : List Header) → is_among h headers ≡ false
    → is_among h (others x headers) ≡ false
none_of_others h x [] none = refl
none_of_others h x (g ∷ rest) none = let parts = or_parts (header_eq h g) (is_among h rest) none in
    none_kept h g (others x rest) (header_eq x g) parts.0 (none_of_others h x rest parts.1)

-- no header comes twice
Differ : List Header → Type 0
Differ [] = Unit {0}
Differ (h ∷ headers) = (is_among h headers ≡ false) × Differ headers

differ_kept : (x h : Header) (rest : List Header) (b : Bool) → is_among h rest ≡ false → Differ rest
    → Differ (cond (not b) (h ∷ rest) rest)
unfolding Differ
differ_kept x h rest true none differ = differ
differ_kept x h rest false none differ = (none, differ)

others_differ : (x : Header) (headers : List Header) → Differ headers → Differ (others x headers)
unfolding Differ
others_differ x [] differ = tt
others_differ x (h ∷ rest) differ = differ_kept x h (others x rest) (header_eq x h)
    (none_of_others h x rest differ.0) (others_differ x rest differ.1)

headers_differ : (held : List Leaving) → Differ (exported_flow_headers_of held)
unfolding Differ
headers_differ [] = tt
headers_differ (one ∷ more) = (
  others_lack one.header (exported_flow_headers_of more),
  others_differ one.header (exported_flow_headers_of more) (headers_differ more),
)

-- ---- the headers of a list with one more leaving

apart_last : (x h : Header) (rest : List Header) → header_eq x h ≡ false
    → others x (rest ++ h ∷ []) ≡ others x rest ++ h ∷ []
apart_last x h rest away = cc (filter-append (λ g. not (header_eq x g)) rest (h ∷ []), away)

same_last : (x h : Header) (rest : List Header) → header_eq x h ≡ true
    → others x (rest ++ h ∷ []) ≡ others x rest
same_last x h rest is =
    cc (filter-append (λ g. not (header_eq x g)) rest (h ∷ []), is, append-nil (others x rest))

behind : (x h : Header) (rest : List Header) (first here : Bool) → header_eq h x ≡ first
    → is_among h rest ≡ here → x ∷ others x (cond here rest (rest ++ h ∷ []))
    ≡ cond (first || is_among h (others x rest)) (x ∷ others x rest) ((x ∷ others x rest) ++ h ∷ [])
behind x h rest true true is there = refl
behind x h rest true false is there = cc (same_last x h rest (turned h x is))
behind x h rest false true is there = ap (λ b. cond b (x ∷ others x rest)
    ((x ∷ others x rest) ++ h ∷ [])) (sym (has_others h x rest is ∙ there))
behind x h rest false false is there =
    cc (apart_last x h rest (apart h x is), has_others h x rest is, there)

headers_on : (held : List Leaving) (one : Leaving)
    → exported_flow_headers_of (held ++ one ∷ []) ≡ with_header (exported_flow_headers_of held) one.header
headers_on [] one = refl
headers_on (first ∷ held) one =
    ap (λ rest. first.header ∷ others first.header rest) (headers_on held one)
    ∙ behind first.header one.header (exported_flow_headers_of held) (header_eq one.header first.header)
    (is_among one.header (exported_flow_headers_of held)) refl refl

-- ---- counts

abbrev counted : (Header → ℕ) → List Header → List (Header × ℕ)
counted count headers = map (λ h. (h, count h)) headers

module _ (h : Header) (old new : Header → ℕ) (more : new h ≡ old h + 1)
    (stays : (g : Header) → header_eq h g ≡ false → new g ≡ old g) where
  counted_same : (headers : List Header) → is_among h headers ≡ false
      → counted old headers ≡ counted new headers
  counted_same [] none = refl
  counted_same (g ∷ rest) none = let parts = or_parts (header_eq h g) (is_among h rest) none in
      ap (λ n. (g, n) ∷ counted old rest) (sym (stays g parts.0))
      ∙ ap (λ counts. (g, new g) ∷ counts) (counted_same rest parts.1)

  first_counted : (g : Header) (rest : List Header) (b here : Bool) → header_eq h g ≡ b
      → is_among h rest ≡ here → is_among g rest ≡ false
      → insert_entry header_eq (counted old rest) h (old h + 1) ≡ counted new (with_header rest h)
      → cond b ((g, old h + 1) ∷ counted old rest)
      ((g, old g) ∷ insert_entry header_eq (counted old rest) h (old h + 1))
      ≡ counted new (cond (b || here) (g ∷ rest) ((g ∷ rest) ++ h ∷ []))
  first_counted g rest true here is there differ on = let g_is : h ≡ g = same h g is in
      ap (λ n. (g, n) ∷ counted old rest) (sym more ∙ ap new g_is)
      ∙ ap (λ counts. (g, new g) ∷ counts) (counted_same rest
      (subst (λ (k : Header). is_among k rest ≡ false) (sym g_is) differ))
  first_counted g rest false true is there differ on = cc (stays g is, on, there)
  first_counted g rest false false is there differ on = cc (stays g is, on, there)

  counted_on : (headers : List Header) → Differ headers → insert_entry header_eq
      (counted old headers) h (old h + 1) ≡ counted new (with_header headers h)
  unfolding Differ
  counted_on [] differ = ap (λ n. (h, n) ∷ []) (sym more)
  counted_on (g ∷ rest) differ = first_counted g rest (header_eq h g) (is_among h rest) refl refl
      differ.0 (counted_on rest differ.1)

first_found : (h g : Header) (count : Header → ℕ) (rest : Option ℕ) (here b : Bool)
    → header_eq h g ≡ b → unwrap_or rest 0 ≡ cond here (count h) 0
    → unwrap_or (cond b (Some (count g)) rest) 0 ≡ cond (b || here) (count h) 0
first_found h g count rest here true is found = ap count (sym (same h g is))
first_found h g count rest here false is found = found

looked_up : (h : Header) (count : Header → ℕ) (headers : List Header)
    → unwrap_or (lookup (header_eq h) (counted count headers)) 0
    ≡ cond (is_among h headers) (count h) 0
looked_up h count [] = refl
looked_up h count (g ∷ rest) = first_found h g count (lookup (header_eq h) (counted count rest))
    (is_among h rest) (header_eq h g) refl (looked_up h count rest)

-- ---- packets

packets_on : (held : List Leaving) (one : Leaving) (h : Header)
    → flow_packets_of (held ++ one ∷ []) h ≡ flow_packets_of held h + cond (header_eq one.header h) 1 0
packets_on held one h = sum_by_push (λ (two : Leaving). cond (header_eq two.header h) 1 0) held one

no_packets : (held : List Leaving) (h : Header) → is_among h (exported_flow_headers_of held) ≡ false
    → flow_packets_of held h ≡ 0
no_packets [] h none = refl
no_packets (one ∷ held) h none =
    let parts = or_parts (header_eq h one.header) _ none in
    let rest = no_packets held h
    (sym (has_others h one.header (exported_flow_headers_of held) parts.0) ∙ parts.1) in
    sum_by-cons (λ (two : Leaving). cond (header_eq two.header h) 1 0) one held
    ∙ ap (λ b. cond b 1 0 + flow_packets_of held h) (apart h one.header parts.0) ∙ omega (arith, rest)

pub count_is : (h : Header) (held : List Leaving) → flow_count_of_header h (flow_packet_counts held) ≡ flow_packets_of held h
count_is h held =
    looked_up h (flow_packets_of held) (exported_flow_headers_of held) ∙ found (is_among h (exported_flow_headers_of held)) refl
  where
    found : (b : Bool) → is_among h (exported_flow_headers_of held) ≡ b → cond b (flow_packets_of held h) 0 ≡ flow_packets_of held h
    found true there = refl
    found false none = sym (no_packets held h none)

-- no header has more packets than there are leavings
pub count_few : (h : Header) (held : List Leaving) → flow_count_of_header h (flow_packet_counts held) ≤ length held
count_few h held = rw count_is (count_by-le-length (λ (one : Leaving). header_eq one.header h) held)

pub counts_on : (held : List Leaving) (one : Leaving)
    → insert_entry header_eq (flow_packet_counts held) one.header (flow_count_of_header one.header (flow_packet_counts held) + 1)
    ≡ flow_packet_counts (held ++ one ∷ [])
counts_on held one =
    let h = one.header in
    let stays : (g : Header) → header_eq h g ≡ false
    → flow_packets_of (held ++ one ∷ []) g ≡ flow_packets_of held g =
    λ g is. packets_on held one g ∙ ap (λ b. flow_packets_of held g + cond b 1 0) is ∙ omega arith in
    ap (λ n. insert_entry header_eq (counted (flow_packets_of held) (exported_flow_headers_of held)) h (n + 1))
    (count_is h held)
    ∙ counted_on h (flow_packets_of held) (flow_packets_of (held ++ one ∷ [])) (packets_on held one h
    ∙ ap (λ b. flow_packets_of held h + cond b 1 0) (itself h)) stays (exported_flow_headers_of held)
    (headers_differ held)
    ∙ ap (counted (flow_packets_of (held ++ one ∷ []))) (sym (headers_on held one))

-- the records that the counts are
abbrev pub record_at : ℕ → Header × ℕ → FlowRecord
record_at port count = record { port = port; header = count.0; packets = count.1 }

recorded : (port : ℕ) (count : Header → ℕ) (headers : List Header)
    → map (record_at port) (counted count headers)
    ≡ map (λ h. record { port = port; header = h; packets = count h }) headers
recorded port count [] = refl
recorded port count (h ∷ rest) = cc (recorded port count rest)

pub records_are : (port : ℕ) (held : List Leaving)
    → map (record_at port) (flow_packet_counts held) ≡ flows port held
records_are port held = recorded port (flow_packets_of held) (exported_flow_headers_of held)

pub counts_after : (old new : List (Header × ℕ)) (held more : List Leaving) (one : Leaving)
    → old ≡ flow_packet_counts held
    → new ≡ insert_entry header_eq old one.header (flow_count_of_header one.header old + 1)
    → more ≡ held ++ one ∷ [] → new ≡ flow_packet_counts more
counts_after old new held more one old_is new_is more_is =
    cc (new_is, old_is, counts_on held one, more_is)
