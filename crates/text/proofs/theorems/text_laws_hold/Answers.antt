use Rattle.text.proofs.Decimals.{read_number_text, number_word_text}
use Rattle.text.proofs.Renderings.{read_block_text, block_word_text, block_word_small, read_list_text, list_word_text, list_word_small}
use Rattle.text.proofs.Spaces.{words_spaced, spaced_words, words_unspaced}
use Rattle.text.proofs.theorems.text_laws_hold.Goals as goal

pub returns : goal.returns
returns c =
    record {
      rejoined = spaced_words;
      unspaced = words_unspaced;
      parted = words_spaced;
      number_back = read_number_text;
      number_only = number_word_text;
      block_back = read_block_text;
      block_only = block_word_text;
      block_case = block_word_small;
      list_back = read_list_text;
      list_only = list_word_text;
      list_case = list_word_small;
    }
