-- Settings as they cross to C: numbers.
use Rattle.definition.specs.Settings.{null_style_of, is_on}
use Rattle.definition.specs.declared.Settings.{Settings}
use Rattle.rassemok.specs.declared.Options.{Options}

unfoldable pub settings_of : Options → Settings
settings_of o =
    record {
      null_style = null_style_of o.null_style;
      indent_sequences = is_on o.indent_sequences;
      explicit_end = is_on o.explicit_end;
      indent = o.indent;
      indentless = is_on o.indentless;
      single_quotes = is_on o.single_quotes;
      width = o.width;
    }
