-- `unfolding opened` opens every definition of this folder, for a proof by computation.
use Rattle.definition.specs.Base.{within, is_nil, is_some, any, has, spaces}
use Rattle.definition.specs.Utf8.{is_first, due, low, high, scan, well_formed}
use Rattle.definition.specs.Char.{goes_on, cut, chars, number, non_printable}
use Rattle.definition.specs.Quote.{single_body, single_capable, single_quotable, digit, hex2, hex4, escaped, escapes, double_body}
use Rattle.definition.specs.Fold.{size, column, breakable, breakable_in, has_breakable, ahead, folded, fold}
use Rattle.definition.specs.Block.{leads_blank, use_literal_block, all_breaks, trailing, trimmed, chomping, block_header, indented, beyond, block_body}
use Rattle.definition.specs.Settings.{null_style_of, is_on, null_as, plain_settings, step_of, weight_of, folds, is_empty_style, is_tilde}
use Rattle.definition.specs.Scalar.{starts_bom, ends_key, unsafe_in_flow, marker_of, quote_of, body_of, quoted, quoted_folded, styled_quotes, own_quotes, must_quote, block_text, scalar_text, separator}
use Rattle.definition.specs.Tree.{place, kept, brought, kind}
use Rattle.definition.specs.Pen.{nothing, newline, indent, sign, start, write, at_line_start, hashed, inline_text, is_at, commented, ends_closed, replayed, run, finished, bytes_of}
use Rattle.definition.specs.Walk.{comment_line, comment_lines, heads_that, heads, heads_above, heads_below, foots, blanks, above_dash, below_dash, prop, props, props_compact, has_props, props_line, included, directive_of, include_line, is_block_style, is_plain, some_item, some_pair, is_block_form, is_block, is_sequence, is_null, is_empty_scalar, has_comments, any_comments, any_comments_in, needs_explicit, is_explicit, colon, inline_key, below_introducer, inlined, value_of, colon_block, dash_block, dash_compact, fresh, replays, bare, null_text, value_column, item_column, on_dash_line, content, value}
use Rattle.definition.specs.Document.{dashes, dots, directives, root_column, bare_root, body, document, bom, one_document, separation, later_documents, all_documents, emit_one, emit_all, emit_file}
use Rattle.definition.specs.Change.{local_modified, with_id, own_boundary, boundaries, boundaries_all, written_of, changed, collect}
use Rattle.definition.specs.Records.{byte_at, word_at, text_at, style_of, form_of, side_of, file_at, include_at, heading_at, trailer_at, lines_at, words_at, group_at, record_of, kind_at, record_at, size_of, past}
use Rattle.definition.specs.Deck.{bind, words, marked, layout_of, no_lines, none_kept, none_brought, file_of, is_below, source_of, head_of, inline_of, keep, bring, is_node, references, texts_fault, meant, in_order, sound, deepest, read_items, read_pairs, node_of, own_or_on, read_record, read_whole, read_node, read_trees, read_deck}
use Rattle.definition.specs.Calls.{refused, no_change, no_room, over, answered, handed, limited, on_trees, on_one, over_trees, entries, bytes_of_all, write_one, write_all, write_changed, tell_modified, outcome}
use Rattle.definition.specs.Program.{decimal, refusal_line, shown, emit_into, program}
use Rattle.definition.specs.ReadBack.{breaks, is_json, is_printable, is_literal, joined, behind, taken, reads, read_quoted, utf8, worth, double_text, double_escape, double_digit, double_step, is_closed, read_double, single_step, is_apostrophe, read_single, stripped, chomped, indent_of, literal_step, literal_lines, chomped_of, after_header, after_bar, from_bar, read_literal}

unfoldable pub opened : Unit {0}
unfolding within is_nil is_some any has spaces is_first due low high scan well_formed goes_on cut chars number non_printable single_body single_capable single_quotable digit hex2 hex4 escaped escapes double_body size column breakable breakable_in has_breakable ahead folded fold leads_blank use_literal_block all_breaks trailing trimmed chomping block_header indented beyond block_body null_style_of is_on null_as plain_settings step_of weight_of folds is_empty_style is_tilde starts_bom ends_key unsafe_in_flow marker_of quote_of body_of quoted quoted_folded styled_quotes own_quotes must_quote block_text scalar_text separator place kept brought kind nothing newline indent sign start write at_line_start hashed inline_text is_at commented ends_closed replayed run finished bytes_of comment_line comment_lines heads_that heads heads_above heads_below foots blanks above_dash below_dash prop props props_compact has_props props_line included directive_of include_line is_block_style is_plain some_item some_pair is_block_form is_block is_sequence is_null is_empty_scalar has_comments any_comments any_comments_in needs_explicit is_explicit colon inline_key below_introducer inlined value_of colon_block dash_block dash_compact fresh replays bare null_text value_column item_column on_dash_line content value dashes dots directives root_column bare_root body document bom one_document separation later_documents all_documents emit_one emit_all emit_file local_modified with_id own_boundary boundaries boundaries_all written_of changed collect byte_at word_at text_at style_of form_of side_of file_at include_at heading_at trailer_at lines_at words_at group_at record_of kind_at record_at size_of past bind words marked layout_of no_lines none_kept none_brought file_of is_below source_of head_of inline_of keep bring is_node references texts_fault meant in_order sound deepest read_items read_pairs node_of own_or_on read_record read_whole read_node read_trees read_deck refused no_change no_room over answered handed limited on_trees on_one over_trees entries bytes_of_all write_one write_all write_changed tell_modified outcome decimal refusal_line shown emit_into program breaks is_json is_printable is_literal joined behind taken reads read_quoted utf8 worth double_text double_escape double_digit double_step is_closed read_double single_step is_apostrophe read_single stripped chomped indent_of literal_step literal_lines chomped_of after_header after_bar from_bar read_literal
opened = tt
