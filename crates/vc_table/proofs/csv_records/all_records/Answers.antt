use Rattle.std.proofs.Common.{Bor, List, ℕ, ◌≡◌, ◌∙◌, sym, ap, refl, rules, inl, inr, true, map, Some, ◌∷◌, ◌++◌, []}
use Rattle.std.proofs.Common.{arith, length, length-append}
use Rattle.std.specs.Result.{is_ok}
use Rattle.std.proofs.lemmas.List.{map-append, length-map}
use Rattle.csv.specs.Reading.{Reached, default_config, strip_bom}
use Rattle.csv.specs.Records.{fields_of}
use Rattle.csv.specs.declared.parser.State.TheVariants as st
use Rattle.csv.proofs.ReadFacts.{rows-end, rows-more}
use Rattle.vc_table.proofs.RecordLemmas.{all_read, some_read}
use Rattle.vc_table.proofs.csv_records.all_records.Goals as goal

pub loop-row-init : goal.loop-row-init
unfolding Reached
loop-row-init c =
    let fr = c.from_reader-reader.ensures in
    let e = c.has_headers.ensures in
    let f = c.flexible.ensures in
    let start = c.into_iter-row-iterator.ensures.into_iter_gives ∙ refl in
    let rdr = c.into_byte_records-row-items.ensures.rdr in
    let left = c.into_byte_records-row-items.ensures.left in
    rw (start, rdr, c.new-rows.ensures.items) record {
      plain = rw (f, e) at fr.trim ∙ c.new.ensures.trim;
      ready = inr (inr (rw (f, e) at fr.has_headers, fr.headers));
      turns = left;
      config = rw (f, e) at fr.config ∙ c.new.ensures.config;
      few = omega arith;
      reached = (strip_bom c.args.text.now, fr.source, (sym fr.state, refl));
    }

pub loop-row-preserved : goal.loop-row-preserved
loop-row-preserved c =
    let inv = c.loop-row.invariant in
    let s = rw (c.in-Some.is, c.in-Ok.is) at ((c.next.ensures.steps inv.turns inv.plain).0 inv.ready) in
    let good : is_ok c.push.result ≡ true = search rules in
    let items = rw good at c.push.ensures.items in
    let m
    = rows-more (λ (s : Bor (List ℕ)). Some s.now) c.loop-row.row-iterator.rdr c.next.new.self.rdr
    (fields_of c.in-Ok.record) default_config st.StartRecord (strip_bom c.args.text.now) inv.reached.0
    (map fields_of c.loop-row.rows.items) inv.config inv.reached.1 inv.reached.2 s.0 in
    record {
      plain = s.0.3 ∙ inv.plain;
      ready = inl s.1;
      turns = s.2;
      config = s.0.2 ∙ inv.config;
      few = omega (
        arith,
        ap length items,
        length-append c.loop-row.rows.items (c.in-Ok.record ∷ []),
        c.if-len-most.false,
        c.len.ensures,
      );
      reached = (m.0, m.1, rw (items, map-append fields_of c.loop-row.rows.items (c.in-Ok.record ∷ [])) m.2);
    }

pub returns-then-len-most-clause-many : goal.returns-then-len-most-clause-many
returns-then-len-most-clause-many c =
    let inv = c.loop-row.invariant in
    let s = rw (c.in-Some.is, c.in-Ok.is) at ((c.next.ensures.steps inv.turns inv.plain).0 inv.ready) in
    let rows = map fields_of c.loop-row.rows.items in
    let m
    = rows-more (λ (s : Bor (List ℕ)). Some s.now) c.loop-row.row-iterator.rdr c.next.new.self.rdr
    (fields_of c.in-Ok.record) default_config st.StartRecord (strip_bom c.args.text.now) inv.reached.0 rows
    inv.config inv.reached.1 inv.reached.2 s.0 in
    let some
    = some_read default_config (strip_bom c.args.text.now) (rows ++ fields_of c.in-Ok.record ∷ [])
    c.next.new.self.rdr.state m.0 m.2 in
    omega (
      arith,
      some,
      length-append rows (fields_of c.in-Ok.record ∷ []),
      length-map c.loop-row.rows.items fields_of,
      c.if-len-most.true,
      c.len.ensures,
    )

pub returns-clause-records : goal.returns-clause-records
returns-clause-records c =
    let inv = c.loop-row.invariant in
    let s = rw c.in-None.is at ((c.next.ensures.steps inv.turns inv.plain).0 inv.ready) in
    all_read default_config (strip_bom c.args.text.now) (map fields_of c.loop-row.rows.items)
    c.loop-row.row-iterator.rdr.state inv.reached.0 inv.reached.2
    (rows-end (λ (s : Bor (List ℕ)). Some s.now) c.loop-row.row-iterator.rdr c.next.new.self.rdr [] default_config
    inv.reached.0 inv.config inv.reached.1 s)
